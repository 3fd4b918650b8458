-- The machine values of a handle, and what it owns. Assumes `Logic`.
use Rattle.std.proofs.Common.{◌≡◌, ℕ, ◌<◌, ◌^◌, List, [], ◌∷◌, refl, sym, true, false, w64}
use Rattle.std.specs.Prelude.{is_some}
use mathlib.Core.Bool.{◌&&◌}
use lib.Dec.{T}
use seplogic.Ra.Ura.{Ura}
use mir.Syntax.{ty_ptr}
use mir.Raw.{raw as bare}
use mir.Val.{Val, vint, vstruct, vcons, vnil, has_ty, WT}
use base.Fml.{ftrue}
use base.Logic.{never, fst∗}
use types.Logic.{Logic, sem}
use types.Kit.{Item, Goal, Seq, Step, step, ‵, ◌$◌, drop, fsplit, fjoin, fpick, fpack, feq_i, rewrite}
use denote.RattleType.{RattleType, Valss}
use denote.Builtin.{RawPtr, u64}
use denote.Memory.{lone}
use denote.Plain.{uint_Makes}
use denote.RawPtr.{Ptr, block_ptr, null_ptr, ptr_val, in_a_block}
use denote.Steps.{nothing, owned as holds}
use denote.Struct.Struct.{within}
use denote.Struct.Owning.{shape}
use Rattle.std_alloc.specs.Box.Ownership.{box_owns}
use Rattle.std_alloc.proofs.ResultValues.{and_tt}
use Rattle.std.specs.contracts.impls.GlobalAllocator.TheImpl.{ghosts}
use Rattle.std.specs.declared.alloc.Global.{Global}
use Rattle.std.specs.declared.option.Option.{Option}
use Rattle.std.specs.declared.option.Option.TheVariants.{None, Some}
use Rattle.core.proofs.atomic.Steps.{Ptr-Good}
use Rattle.nekchhaul_c.specs.Owned.{owned}
use Rattle.nekchhaul_c.specs.contracts.handle.Handle as handle
use Rattle.tx_loops.specs.contracts.looping_caller.LoopingCaller as looping_caller

abbrev pub word : ℕ → Ptr → Val
word n p = vstruct (vcons (vint w64 n) (vcons (ptr_val p) vnil))

pub word_good : (n : ℕ) → n < 2 ^ 64 → (p : Ptr) → T (has_ty ty_ptr (ptr_val p) && true) × WT (word n p)
word_good n low p = (and_tt (has_ty ty_ptr (ptr_val p)) (Ptr-Good p).0, (record { fits = low }, ((Ptr-Good p).1, tt)))

module _ {M : Type 1} {𝓤 : Ura M} {𝓛 : Logic 𝓤} {K : Type 0} {Γ : List (Item 𝓤)} {G : Goal 𝓤 𝓛.H} where
  pub handle_in : K → (n : ℕ) → n < 2 ^ 64 → (p : Ptr) (x : Option looping_caller.the_row.Denot)
      → Step K 𝓛 (‵ (handle.the_row.own_val (record { tag = n; at = p; inside = x }) (word n p ∷ [])) ∷ Γ) G (‵ (owned looping_caller.the_row n p x) ∷ Γ) G
  handle_in t n low p x = step (λ s. let v : Val = word n p in
      nothing t $ feq_i t (List Val) (ptr_val p ∷ []) (ptr_val p ∷ []) refl $ fjoin t $ holds t u64 _ (uint_Makes 𝓛 w64) n (vint w64 n ∷ []) (refl, low) $ fjoin t $ feq_i t (List Val) (v ∷ []) (v ∷ []) refl $ fjoin t $
      fpack t (Valss (u64 ∷ RawPtr ∷ [])) (within (shape handle.the_type) (n, (p, tt)) (v ∷ [])) (vint w64 n ∷ [], (ptr_val p ∷ [], tt)) $ fjoin t $ s)

  pub either_owned : K → (R : RattleType) (a : Global) (n : ℕ) (p : Ptr) (s : Option R.Denot) → (n ≡ 0 → s ≡ None → Seq K 𝓛 Γ G)
      → ((b o : ℕ) (x : R.Denot) → n ≡ 1 → p ≡ block_ptr b o → s ≡ Some x → Seq K 𝓛 (‵ (box_owns (ghosts.dealloc_token a) R (block_ptr b o) x) ∷ Γ) G) → Seq K 𝓛 (‵ (owned R n p s) ∷ Γ) G
  either_owned t R a n p None none some = fpick t (λ e. drop t $ none e refl)
  either_owned t R a n p (Some x) none some = fsplit t $ fpick t (λ e. drop t $ fpick t (λ a'.
      in_a_block t p (λ q. box_owns (ghosts.dealloc_token a) R q x) (fst∗ 𝓤 (never 𝓤) (sem 𝓛 (ghosts.dealloc_token a (bare (lone R.mir)) null_ptr))) (λ b o e'. some b o x e e' refl)))

  pub some_owned : K → (R : RattleType) (n : ℕ) (p : Ptr) (s : Option R.Denot) → is_some s ≡ true
      → ((a : Global) (b o : ℕ) (x : R.Denot) → n ≡ 1 → p ≡ block_ptr b o → s ≡ Some x → Seq K 𝓛 (‵ (box_owns (ghosts.dealloc_token a) R (block_ptr b o) x) ∷ Γ) G) → Seq K 𝓛 (‵ (owned R n p s) ∷ Γ) G
  some_owned t R n p None held some = absurd (let wrong : false ≡ true = held in cc)
  some_owned t R n p (Some x) held some = fsplit t $ fpick t (λ e. drop t $ fpick t (λ a.
      in_a_block t p (λ q. box_owns (ghosts.dealloc_token a) R q x) (fst∗ 𝓤 (never 𝓤) (sem 𝓛 (ghosts.dealloc_token a (bare (lone R.mir)) null_ptr))) (λ b o e'. some a b o x e e' refl)))

  pub some_owning : K → (R : RattleType) (a : Global) (n : ℕ) (p : Ptr) (b o : ℕ) (x : R.Denot) → n ≡ 1 → p ≡ block_ptr b o
      → Step K 𝓛 (‵ (owned R n p (Some x)) ∷ Γ) G (‵ (box_owns (ghosts.dealloc_token a) R (block_ptr b o) x) ∷ Γ) G
  some_owning t R a n p b o x one at = step (λ s. rewrite t 0 (λ (q : Ptr). ‵ (box_owns (ghosts.dealloc_token a) R q x)) (sym at) refl $
      fpack t Global (λ g. box_owns (ghosts.dealloc_token g) R p x) a $ nothing t $ fpack t (n ≡ 1) (λ _. ftrue) one $ fjoin t $ s)

  -- what it owns tells by the tag whether it holds one
  pub tag_tells : K → (R : RattleType) (n : ℕ) (p : Ptr) (s : Option R.Denot) → (n ≡ 0 → s ≡ None → Seq K 𝓛 (‵ (owned R n p s) ∷ Γ) G)
      → ((x : R.Denot) → n ≡ 1 → s ≡ Some x → Seq K 𝓛 (‵ (owned R n p s) ∷ Γ) G) → Seq K 𝓛 (‵ (owned R n p s) ∷ Γ) G
  tag_tells t R n p None none some = fpick t (λ e. drop t $ nothing t $ fpack t (n ≡ 0) (λ _. ftrue) e $ none e refl)
  tag_tells t R n p (Some x) none some = fsplit t $ fpick t (λ e. drop t $ nothing t $ fpack t (n ≡ 1) (λ _. ftrue) e $ fjoin t $ some x e refl)
