use Rattle.std.proofs.Common.{◌≡◌, ◌≤◌, ◌++◌, [], ◌∷◌, replicate, ap, ◌∙◌, arith, subst}
use Rattle.nekchhaul.specs.Config.{Config}
use Rattle.nekchhaul.specs.Histories.{IsLegal, memory_at}
use Rattle.nekchhaul.specs.Closings.{AllTold}
use Rattle.nekchhaul.specs.ExtendsLaws.{extends-refl}
use Rattle.nekchhaul.specs.Descs.{known, number}
use Rattle.nekchhaul.specs.CallerLaws.{closed-seen}
use Rattle.example_buffer.specs.declared.day.TheConstants.{CONFIG}
use Rattle.example_buffer.specs.Fillings.{IsFilling}
use Rattle.example_buffer.proofs.DayLaws.{seen}
use Rattle.example_buffer.proofs.day.run.Goals as goal

pub returns-in-Ok-close : goal.returns-in-Ok-close
returns-in-Ok-close g c =
    let stm = c.in-Ok.stm in
    let of : stm.config ≡ CONFIG = c.in-Ok.ensures.stm.0 in
    let h = c.in-Ok-close.ensures.closes in
    let e = c.in-Ok-close._closed in
    let worker = c.refill-2.new.desc in
    let reader = c.atomically-two.new.desc in
    let rest = c.pop-2.new.self.items in
    let told = subst (AllTold e 0) (c.push_reserved-2.ensures.items ∙ ap (λ l. l ++ reader ∷ []) c.push_reserved.ensures.items) h.told in
    let begun = closed-seen e 0 (rest ++ worker ∷ []) [] reader told in
    let r0 = known c.in-Some.reader in
    let r1 = known c.atomically-one.new.desc in
    let r2 = known reader in
    let legal = subst (λ (k : Config). IsLegal IsFilling (replicate k.words 0) k.clock e.history) of h.legal in
    record {
      history = e.history;
      end = e.clock;
      legal = legal;
      within = h.times;
      always = legal.good_always;
      words = subst (λ (k : Config). c.in-Ok-close.words.items ≡ memory_at e.clock e.history (replicate k.words 0)) of h.words;
      turn = r1.front;
      one = seen (λ at. at ≤ r1.front) stm.config (number c.in-Some.reader) c.atomically-one.result r0 r1 r2 e.history of (λ at _ le. le) c.atomically-one.ensures.took c.atomically-two.ensures.grew begun;
      two = seen (λ at. r1.front ≤ at) stm.config (number c.atomically-one.new.desc) c.atomically-two.result r1 r2 r2 e.history of (λ at ge _. ge) c.atomically-two.ensures.took (extends-refl r2) begun;
    }
