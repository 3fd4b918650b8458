use Rattle.std.proofs.Common.{◌≡◌, ◌≤◌, ◌+◌, [], ◌∷◌, ◌++◌, length, length-append, replicate, sym, ap, ◌∙◌, arith, subst, append_assoc}
use Rattle.nekchhaul.specs.Config.{Config}
use Rattle.nekchhaul.specs.Histories.{IsLegal, made_by, memory_at}
use Rattle.nekchhaul.specs.Handles.{AllOpened}
use Rattle.nekchhaul.specs.Closings.{AllTold}
use Rattle.nekchhaul.specs.ExtendsLaws.{extends-refl}
use Rattle.nekchhaul.specs.Trees.{IsTree}
use Rattle.nekchhaul.specs.Descs.{known, number}
use Rattle.nekchhaul.specs.CallerLaws.{closed-made, closed-seen, opened-made}
use Rattle.example_seats.specs.declared.hall.Seats.{Seats}
use Rattle.example_seats.specs.declared.sale.TheConstants.{CONFIG, HALL}
use Rattle.example_seats.proofs.SaleLaws.{of-two, wished}
use Rattle.example_seats.proofs.sale.sell.Goals as goal

pub new-requires : goal.new-requires
new-requires g c = record { good = c.trees_are_apart.ensures.empty HALL 31 }

pub returns-in-Ok : goal.returns-in-Ok
returns-in-Ok g c =
    let stm = c.in_ok-stm.stm in
    let of : stm.config ≡ CONFIG = c.in_ok-stm.ensures.stm.0 in
    let under : stm.rule ≡ record { taken = HALL } = c.in_ok-stm.ensures.stm.1 in
    let h = c.in-Ok.ensures.closes in
    let e = c.in-Ok._closed in
    let rest = c.pop-2.new.self.items in
    let first = c.in-Some-pop.first in
    let second = c.in-Some.second in
    let first_through = c.atomically-one.new.desc in
    let second_through = c.atomically-three.new.desc in
    let f = known first in
    let s = known second in
    let g1 = known first_through in
    let between = known c.atomically-two.new.desc in
    let t = known second_through in
    let told = subst (AllTold e 0) (c.push_reserved-2.ensures.items ∙ ap (λ l. l ++ second_through ∷ []) c.push_reserved.ensures.items) h.told in
    let first_told = subst (AllTold e 0) (append_assoc rest (first_through ∷ []) (second_through ∷ [])) told in
    let first_seen = closed-seen e 0 rest (second_through ∷ []) first_through first_told in
    let second_seen = closed-seen e 0 (rest ++ first_through ∷ []) [] second_through told in
    let one = wished (λ at. 0 ≤ at) stm.config stm.rule (number first) 7 c.atomically-one.result f g1 g1 e.history of under
    (λ at _ _. omega arith) c.atomically-one.ensures.took c.atomically-one.ensures.none (extends-refl g1) first_seen in
    let two = wished (λ at. at ≤ between.front) stm.config stm.rule (number second) 7 c.atomically-two.result s between t e.history of under
    (λ at _ le. le) c.atomically-two.ensures.took c.atomically-two.ensures.none c.atomically-three.ensures.grew second_seen in
    let three = wished (λ at. between.front ≤ at) stm.config stm.rule (number c.atomically-two.new.desc) 3 c.atomically-three.result between
    t t e.history of under (λ at ge _. ge) c.atomically-three.ensures.took c.atomically-three.ensures.none (extends-refl t)
    second_seen in
    let callers : stm.config.callers ≡ 2 = ap (λ (k : Config). k.callers) of in
    let both = of-two e.history (λ n le. h.nobody_else n (subst (λ k. k ≤ n) (sym callers) le)) in
    let opened = c.in_ok-stm.ensures.descs in
    let whole : c.in_ok-stm.descs.items ≡ (rest ++ first ∷ []) ++ second ∷ [] = c.in-Some.ensures.items ∙ ap (λ l. l ++ second ∷ []) c.in-Some-pop.ensures.items in
    let long = ap length (sym whole) ∙ opened.1 in
    let outer = length-append (rest ++ first ∷ []) (second ∷ []) in
    let inner = length-append rest (first ∷ []) in
    let alone : length rest ≡ 0 = omega (arith, long, outer, inner) in
    let first_new : f.made ≡ [] = opened-made stm 0 rest (second ∷ []) first (subst (AllOpened stm 0) (whole ∙ append_assoc rest (first ∷ []) (second ∷ [])) opened.0) in
    let second_new : s.made ≡ [] = opened-made stm 0 (rest ++ first ∷ []) [] second (subst (AllOpened stm 0) whole opened.0) in
    let ones : g1.made ≡ made_by 0 e.history = closed-made e 0 rest (second_through ∷ []) first_through first_told ∙ ap (λ k. made_by (0 + k) e.history) alone in
    let place : length (rest ++ first_through ∷ []) ≡ 1 = (let inner_through = length-append rest (first_through ∷ []) in omega (arith, alone, inner_through)) in
    let others : t.made ≡ made_by 1 e.history = closed-made e 0 (rest ++ first_through ∷ []) [] second_through told ∙ ap (λ k. made_by (0 + k) e.history) place in
    record {
      history = e.history;
      end = e.clock;
      legal =
          subst (λ (k : Config). IsLegal (IsTree HALL) (replicate k.words 0) k.clock e.history) of
          (subst (λ (r : Seats). IsLegal (IsTree r.taken) (replicate stm.config.words 0) stm.config.clock e.history) under h.legal);
      within = h.times;
      words = subst (λ (k : Config). c.in-Ok.words.items ≡ memory_at e.clock e.history (replicate k.words 0)) of h.words;
      turn = between.front;
      one = one.0;
      two = two.0;
      three = three.0;
      only =
          (let a = ap length (sym ones) in
          let b = ap length (sym others) in
          let x = ap length first_new in
          let y = ap length second_new in let p = one.1 in let q = two.1 in let r = three.1 in omega (arith, both, a, b, x, y, p, q, r));
    }
