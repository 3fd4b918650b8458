-- `is_held` looks at the tag alone.
use Rattle.std.proofs.Common.{◌∙◌, ℕ, List, [], ◌∷◌, true, false, refl, sym, ap, lit<}
use Rattle.std.specs.Prelude.{is_some}
use base.Fraction.{full_share}
use mir.Syntax.{named}
use mir.Val.{Val, vbool}
use base.Fml.{ftrue, flft}
use types.Kit.{‵, ◌⊛◌, ◌$◌, ◌∵◌, !, qed, move, keep, split, join, group, rewrite, fsplit, fsplit3, fjoin, suffices, frame, feq_i, done}
use types.Part.{whole, sub, look_in}
use types.Run.{stop, fld, load, of_opd, bin, lit, returns, enter}
use types.ByLocal.{alloc_all, pass_all, free_all, look_at, get, through, sets}
use contract.Running.{tables}
use denote.RattleType.{RattleType}
use denote.Laws.{shows}
use denote.Memory.{cell_at}
use denote.Ref.{MutRef, mut_vals, mut_Tells}
use denote.Signature.{plain}
use denote.Steps.{nothing, opens, closes, peeks}
use denote.Triple.Walked.{says, Stays, stay_ref, walk_of, ends_at, Goes-ref}
use Rattle.std.proofs.raw_atomic.Walks.{proved}
use Rattle.nekchhaul_c.proofs.Handles.{word, tag_tells}
use Rattle.nekchhaul_c.specs.contracts.handle.Handle as handle
use Rattle.nekchhaul_c.proofs.handle.Handle.TheLaws.{lowers}
use Rattle.tx_loops.specs.contracts.looping_caller.LoopingCaller as looping_caller
use Rattle.nekchhaul_c.specs.contracts.handle.Handle.is_held as f
use Rattle.nekchhaul_c.proofs.handle.Handle.is_held.Statement.{statement}
use Rattle.nekchhaul_c.proofs.handle.Handle.is_held.Code as code

abbrev T : RattleType
T = looping_caller.the_row

abbrev R : RattleType
R = handle.the_row

abbrev stayed : Stays f.ended.signature.params f.ended.kept
stayed = (stay_ref (0 ∷ []) tt (plain (λ _. R)), tt)

pub is_held_spec : {M : Type 1} → statement M
is_held_spec 𝓤 𝓛 𝓜 𝓡 wired =
    let c = f.clauses 𝓛 𝓜.mem 𝓡.returns in let W = walk_of 𝓛 f.ended stayed c in let 𝓣 = tables 𝓤 𝓛.H 𝓜 𝓡 𝓡.env in
    proved 𝓛 f.ended stayed c 𝓜 𝓡 (Goes-ref 𝓛 1 0 tt (plain (λ _. R)), tt) f.Key.name code.function (code.unfolded 𝓤 𝓛.H 𝓜 𝓡 wired)
    (λ κs. (mut_vals, tt)) (λ κs. (mut_Tells (named 0) κs.0 R, tt)) (λ κs qs bounds a g are.
    let rb = a.0.ref_ptr.0 in let ro = a.0.ref_ptr.1 in let h = a.0.now in let vs = mut_vals a.0 in
    let y : W.Ghost = ((κs, qs, bounds, a, (vs, tt)), g) in
    qed 𝓛 (((‵ (flft κs.0 qs.0) ⊛ ‵ ftrue) ⊛ ‵ ((MutRef (named 0) κs.0 R).own_val a.0 vs) ⊛ ‵ ftrue) ∷ ‵ ftrue ∷ []) ∵
    split ! $ split ! $ move ! (2 ∷ []) $ split ! $ keep ! (0 ∷ 2 ∷ []) $
    enter ! _ _ _ _ _ $ alloc_all ! (λ l. pass_all ! refl ((tt, tt), tt) $
    fsplit3 ! $ move ! (1 ∷ 2 ∷ 3 ∷ []) $ opens ! tt R {h = h} rb ro (λ us. move ! (1 ∷ []) $ peeks ! R _ (shows 𝓛 R) h us (λ is. fsplit ! $ move ! (1 ∷ []) $
    let Cell = λ (ws : List Val). ‵ (cell_at full_share R.mir ws rb ro) in
    tag_tells ! T h.tag h.at h.inside
    (λ tag inside. let told = lowers.val_is h us is ∙ ap (λ (n : ℕ). word n h.at ∷ []) tag in
    rewrite ! 2 Cell told refl $ sets ! (of_opd ! (load ! (through ! refl (fld ! refl (stop !))) (look_in ! 2 (sub ! 0 refl (whole !))))) refl (tt, record { fits = lit< tt }) $
    sets ! (bin ! (get ! refl) (lit ! tt) tt) refl (tt, tt) $
    rewrite ! 2 Cell (sym told) refl $ move ! (1 ∷ []) $ fjoin ! $ move ! (1 ∷ []) $ closes ! tt R h us rb ro $ returns ! (look_at ! 0 refl) $ free_all ! refl $ move ! (3 ∷ []) $
    suffices ! _ (ends_at 𝓛 f.ended stayed c y (vbool false) false (h, tt) (tt, tt)) $ says ! (refl, sym (ap is_some inside)) $
    group ! 3 $ nothing ! $ move ! (1 ∷ 0 ∷ []) $ join ! $ nothing ! $ move ! (2 ∷ 0 ∷ []) $ join ! $ frame ! $ frame ! $ feq_i ! _ (vbool false ∷ []) _ refl $ done !)
    (λ x tag inside. let told = lowers.val_is h us is ∙ ap (λ (n : ℕ). word n h.at ∷ []) tag in
    rewrite ! 2 Cell told refl $ sets ! (of_opd ! (load ! (through ! refl (fld ! refl (stop !))) (look_in ! 2 (sub ! 0 refl (whole !))))) refl (tt, record { fits = lit< tt }) $
    sets ! (bin ! (get ! refl) (lit ! tt) tt) refl (tt, tt) $
    rewrite ! 2 Cell (sym told) refl $ move ! (1 ∷ []) $ fjoin ! $ move ! (1 ∷ []) $ closes ! tt R h us rb ro $ returns ! (look_at ! 0 refl) $ free_all ! refl $ move ! (3 ∷ []) $
    suffices ! _ (ends_at 𝓛 f.ended stayed c y (vbool true) true (h, tt) (tt, tt)) $ says ! (refl, sym (ap is_some inside)) $
    group ! 3 $ nothing ! $ move ! (1 ∷ 0 ∷ []) $ join ! $ nothing ! $ move ! (2 ∷ 0 ∷ []) $ join ! $ frame ! $ frame ! $ feq_i ! _ (vbool true ∷ []) _ refl $ done !))))
    )
