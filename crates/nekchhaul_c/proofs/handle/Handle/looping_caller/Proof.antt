-- `looping_caller` lends what lies behind the pointer, and the handle follows it.
use Rattle.std.proofs.Common.{◌≡◌, ◌∙◌, ℕ, List, [], ◌∷◌, true, refl, sym, ap}
use seplogic.Ra.Ura.{Ura}
use base.Fraction.{full_share}
use mir.Syntax.{named}
use mir.Raw.{raw as bare}
use mir.Val.{Val, vptr}
use base.Logic.{ent, sep}
use base.Fml.{Fml, GName, ftrue, fsep, flft}
use types.Logic.{Logic, sem}
use types.Kit.{‵, raw, ◌⊛◌, some, later, await, pick, at_ret, ◌$◌, ◌∵◌, !, qed, by, move, keep, use1, split, join, group, rewrite, fsplit, fsplit3, fjoin, fpack, suffices, frame, done}
use types.Part.{whole, sub, look_in}
use types.Run.{stop, fld, load, of_opd, addr, first, blocks, exec, returns, enter}
use types.ByLocal.{alloc_all, pass_all, free_all, look_at, get, through, sets, sets_last, env}
use contract.Monad.{fact}
use contract.Running.{tables}
use denote.RattleType.{RattleType}
use denote.Laws.{shows}
use denote.Memory.{cell_at, lone, mem, part_at, part_of}
use denote.RawPtr.{Ptr, block_ptr}
use denote.Ref.{MutBor, MutRef, mut_vals, mut_Tells}
use denote.Follow.{follows, Part, lends_Part}
use denote.Signature.{plain, mut_ref_to}
use denote.Steps.{nothing, opens, peeks, heard}
use denote.Struct.Struct.{Struct}
use denote.Struct.Owning.{shape}
use denote.Exit.{no}
use denote.Triple.Walked.{says, Stays, stay_dropped, walk_of, ends_at, Goes-spent_ref}
use Rattle.std.proofs.VecSteps.Shapes.{after}
use Rattle.std.proofs.raw_atomic.Walks.{proved}
use Rattle.std.specs.Prelude.{is_some}
use Rattle.std.specs.contracts.impls.GlobalAllocator.TheImpl.{ghosts}
use Rattle.std.specs.declared.alloc.Global.{Global}
use Rattle.nekchhaul_c.proofs.Handles.{word, some_owned, some_owning}
use Rattle.nekchhaul_c.specs.Lends.{holding}
use Rattle.nekchhaul_c.specs.declared.handle.Handle.{Handle}
use Rattle.nekchhaul_c.specs.contracts.handle.Handle as handle
use Rattle.nekchhaul_c.proofs.handle.Handle.TheLaws.{lowers}
use Rattle.tx_loops.specs.contracts.looping_caller.LoopingCaller as looping_caller
use Rattle.nekchhaul_c.specs.contracts.handle.Handle.looping_caller as f
use Rattle.nekchhaul_c.proofs.handle.Handle.looping_caller.Statement.{statement}
use Rattle.nekchhaul_c.proofs.handle.Handle.looping_caller.Code as code

abbrev R : RattleType
R = handle.the_row

abbrev T : RattleType
T = looping_caller.the_row

abbrev stayed : Stays f.ended.signature.params f.ended.kept
stayed = (stay_dropped (mut_ref_to (0 ∷ []) tt (plain (λ _. R))) no, tt)

-- all of a handle but its caller: the right to free the block, and the cell of the two words
module _ (h : Handle) (us : List Val) (rb ro b o : ℕ) (a : Global) where
  abbrev Rest : Fml
  Rest = fsep (fsep (ghosts.dealloc_token a (bare (lone T.mir)) (block_ptr b o)) ((Struct (shape handle.the_type)).own_val (h.tag, (h.at, tt)) us)) (cell_at full_share R.mir us rb ro)

  back : {M : Type 1} {𝓤 : Ura M} (𝓛 : Logic 𝓤) → h.tag ≡ 1 → h.at ≡ block_ptr b o → (w : T.Denot)
      → ent 𝓤 (sep 𝓤 (sem 𝓛 ((mem T).own_at w b o)) (sem 𝓛 Rest)) (sem 𝓛 ((mem R).own_at (holding h w) rb ro))
  unfolding part_of
  back 𝓛 one at w =
      qed 𝓛 (‵ (part_at T full_share w b o) ∷ ‵ Rest ∷ []) ∵ move ! (1 ∷ []) $ fsplit ! $ fsplit ! $ move ! (3 ∷ 0 ∷ []) $ fjoin ! $
      some_owning ! T a h.tag h.at b o w one at $ move ! (1 ∷ 0 ∷ []) $ fjoin ! $ move ! (1 ∷ 0 ∷ []) $ fjoin ! $
      fpack ! (List Val) (λ vs. fsep (cell_at full_share R.mir vs rb ro) (R.own_val (holding h w) vs)) us $ done !

pub looping_caller_spec : {M : Type 1} → statement M
looping_caller_spec 𝓤 𝓛 𝓜 𝓡 wired =
    let c = f.clauses 𝓛 𝓜.mem 𝓡.returns in let 𝓣 = tables 𝓤 𝓛.H 𝓜 𝓡 𝓡.env in let W = walk_of 𝓛 f.ended stayed c in
    proved 𝓛 f.ended stayed c 𝓜 𝓡 (Goes-spent_ref 𝓛 1 (0 ∷ []) tt (plain (λ _. R)), tt) f.Key.name code.function (code.unfolded 𝓤 𝓛.H 𝓜 𝓡 wired)
    (λ κs. (mut_vals, tt)) (λ κs. (mut_Tells (named 0) κs.0 R, tt)) (λ κs qs bounds a g are.
    let κ = κs.0 in let q = qs.0 in let rb = a.0.ref_ptr.0 in let ro = a.0.ref_ptr.1 in let γ = a.0.ghost_name in let h = a.0.now in
    let y : W.Ghost = ((κs, qs, bounds, a, (mut_vals a.0, tt)), g) in
    qed 𝓛 (((‵ (flft κ q) ⊛ ‵ ftrue) ⊛ ‵ ((MutRef (named 0) κ R).own_val a.0 (mut_vals a.0)) ⊛ ‵ ftrue) ∷ raw (fact 𝓤 (is_some h.inside ≡ true)) ∷ []) ∵
    move ! (1 ∷ []) $ heard ! _ (λ held. split ! $ split ! $ move ! (2 ∷ []) $ split ! $ keep ! (0 ∷ 2 ∷ []) $
    enter ! _ _ _ _ _ $ alloc_all ! (λ l. pass_all ! refl ((tt, tt), tt) $
    fsplit3 ! $ move ! (1 ∷ 2 ∷ 3 ∷ []) $ opens ! tt R {h = h} rb ro (λ us. move ! (1 ∷ []) $ peeks ! R _ (shows 𝓛 R) h us (λ is. fsplit ! $ move ! (1 ∷ []) $
    some_owned ! T h.tag h.at h.inside held (λ alloc b o x one at inside. fsplit ! $
    -- [the caller; the right to free its block; the fields; the cell of the two words; the open borrow, in three
    -- entries]
    let told = lowers.val_is h us is ∙ ap (λ (p : Ptr). word h.tag p ∷ []) at in let Cell = λ (ws : List Val). ‵ (cell_at full_share R.mir ws rb ro) in
    rewrite ! 3 Cell told refl $ first ! $ blocks ! $
    sets ! (of_opd ! (load ! (through ! refl (fld ! refl (stop !))) (look_in ! 3 (sub ! 1 refl (whole !))))) refl (tt, tt) $
    sets_last ! (addr ! (through ! refl (stop !))) refl (tt, tt) $
    exec ! 𝓣.C 𝓣.Λ (env code.Mir.locals l) (after 1 (code.function).body) (at_ret _ (W.post y)) $ sets ! (of_opd ! (get ! refl)) refl (tt, tt) $
    rewrite ! 3 Cell (sym told) refl $ move ! (1 ∷ 2 ∷ []) $ fjoin ! $ move ! (0 ∷ 2 ∷ []) $ fjoin ! $ move ! (2 ∷ 3 ∷ 4 ∷ 1 ∷ 0 ∷ []) $ group ! 5 $
    let rest = sem 𝓛 (Rest h us rb ro b o alloc) in let way = back h us rb ro b o alloc 𝓛 one at in let bits = R.coded.code h in
    use1 𝓛 (later (some (λ (δ : GName). raw (Part 𝓛 R T (holding h) (named 0) κ q rb ro b o γ rest way x δ)))) (lends_Part 𝓛 R T (holding h) (named 0) κ q rb ro b o γ rest way bits bits x) $ await ! tt $ pick ! (λ δ.
    returns ! (look_at ! 0 refl) $ free_all ! refl $
    let lent : MutBor T.Denot = record { ref_ptr = (b, o); ghost_name = δ; now = x } in
    keep ! (0 ∷ []) $ by ! (qed 𝓛 (‵ ((MutRef (named 0) κ T).own_val lent (vptr b o ∷ [])) ∷ ‵ (flft κ q) ∷ ‵ (follows R T γ δ (holding h)) ∷ []) ∵
    suffices ! _ (ends_at 𝓛 f.ended stayed c y (vptr b o) lent (tt, tt) (tt, tt)) $
    nothing ! $ nothing ! $ fjoin ! $ join ! $ nothing ! $ move ! (2 ∷ 0 ∷ []) $ join ! $ join ! $ frame ! $ says ! inside $ done !))))))))
