-- How the first line of a text is read, word by word.
use Rattle.std.proofs.Common.{ℕ, zero, suc, ◌≡◌, ◌≢◌, ◌↔◌, ◌<◌, ◌≤◌, ◌+◌, ◌%◌, cond, not, get_or, map, replicate, leb, ltb, ◌&&◌, List, [], ◌∷◌, ◌++◌, Bool, true, false, ◌||◌, Result, Ok, Err, refl, sym, ap, subst, ◌∙◌, arith, length, length-drop, take, drop, append-nil}
use Rattle.std.specs.Prelude.{◌==◌, if◌then◌else◌, ltb, OnOk}
use Rattle.std.proofs.lemmas.Bool.Decides.{nat_tests}
use Rattle.std.proofs.lemmas.List.{take-append-drop}
use Rattle.std.specs.Int.{bit_at}
use Rattle.std.specs.Simd.Lanes.{zip2, mask_l}
use Rattle.std.proofs.lemmas.Simd.{length-zip2, get_or-zip2, get_or-replicate, bit_mask_l}
use Rattle.std.proofs.lemmas.List.{get_or-take, length-take-le}
use Rattle.std.proofs.Math.ListN.{get_or-map}
use Rattle.work_text.specs.declared.code.TheConstants.{BYTES, UNENDED}
use Rattle.work_text.specs.declared.draft.Step.{Step}
use Rattle.work_text.specs.declared.lines.End.{End}
use Rattle.work_text.specs.declared.lines.End.TheVariants as ends
use Rattle.work_text.specs.Lines.{Line, with_byte, lines_of, with_letter, words_of, any_bad}
use Rattle.work_text.specs.LineLaws.{cut-at, words_of-some}
use Rattle.work_text.specs.WordLaws.{Visible}
use Rattle.work_text.specs.Reading.{is_visible, end_of, EndsBy, IsAt, judged, behind, Leaves}

abbrev By : Type 0
By = List (List ℕ) → Result Step ℕ

pub visible-snoc : (bs : List ℕ) (b : ℕ) → Visible bs → is_visible b ≡ true → Visible (bs ++ b ∷ [])
visible-snoc [] b h v = (grind (arith, nat_tests), grind (arith, nat_tests), tt)
visible-snoc (x ∷ xs) b h v = (h.0, h.1, visible-snoc xs b h.2 v)

-- a byte of a word before the other lines
letter-by : (x : ℕ) (by : By) (ls : List Line) → (ltb x 32 || ltb 126 x) ≡ false → (x == 32) ≡ false → judged by (with_byte x ls) ≡ judged (λ ws. by (with_letter x ws)) ls
letter-by x by [] good other = rw good
letter-by x by (l ∷ ls) good other = rw (good, other)

behind-by : (x : ℕ) (ls : List Line) → behind (with_byte x ls) ≡ behind ls
behind-by x [] = refl
behind-by x (l ∷ ls) = refl

not-line : (x : ℕ) (t : List ℕ) → (x == 10) ≡ false → lines_of (x ∷ t) ≡ with_byte x (lines_of t)
not-line x t other = rw other

letter : (x : ℕ) (by : By) (t : List ℕ) → 33 ≤ x → x ≤ 126 → judged by (lines_of (x ∷ t)) ≡ judged (λ ws. by (with_letter x ws)) (lines_of t)
letter x by t low high =
    let good : (ltb x 32 || ltb 126 x) ≡ false = grind (arith, nat_tests) in
    let space : (x == 32) ≡ false = grind (arith, nat_tests) in
    let line : (x == 10) ≡ false = grind (arith, nat_tests) in
    ap (judged by) (not-line x t line) ∙ letter-by x by (lines_of t) good space

letter-behind : (x : ℕ) (t : List ℕ) → 33 ≤ x → behind (lines_of (x ∷ t)) ≡ behind (lines_of t)
letter-behind x t low =
    let line : (x == 10) ≡ false = grind (arith, nat_tests) in
    ap behind (not-line x t line) ∙ behind-by x (lines_of t)

-- a word and a space
space-by : (by : By) (ls : List Line) → judged by (with_byte 32 ls) ≡ judged (λ ws. by ([] ∷ ws)) ls
space-by by [] = refl
space-by by (l ∷ ls) = refl

judged-space : (by : By) (w t : List ℕ) → Visible w → judged by (lines_of (w ++ 32 ∷ t)) ≡ judged (λ ws. by (w ∷ ws)) (lines_of t)
judged-space by [] t h = space-by by (lines_of t)
judged-space by (x ∷ w) t h = letter x by (w ++ 32 ∷ t) h.0 h.1 ∙ judged-space (λ ws. by (with_letter x ws)) w t h.2

behind-space : (w t : List ℕ) → Visible w → behind (lines_of (w ++ 32 ∷ t)) ≡ behind (lines_of t)
behind-space [] t h = behind-by 32 (lines_of t)
behind-space (x ∷ w) t h = letter-behind x (w ++ 32 ∷ t) h.0 ∙ behind-space w t h.2

-- the last word of a line
judged-line : (by : By) (w t : List ℕ) → Visible w → judged by (lines_of (w ++ 10 ∷ t)) ≡ by (w ∷ [])
judged-line by [] t h = refl
judged-line by (x ∷ w) t h = letter x by (w ++ 10 ∷ t) h.0 h.1 ∙ judged-line (λ ws. by (with_letter x ws)) w t h.2

behind-line : (w t : List ℕ) → Visible w → behind (lines_of (w ++ 10 ∷ t)) ≡ lines_of t
behind-line [] t h = refl
behind-line (x ∷ w) t h = letter-behind x (w ++ 10 ∷ t) h.0 ∙ behind-line w t h.2

-- a byte that no line may have
bad-by : (by : By) (b : ℕ) (ls : List Line) → (ltb b 32 || ltb 126 b) ≡ true → judged by (with_byte b ls) ≡ Err BYTES
bad-by by b [] bad = rw bad
bad-by by b (l ∷ ls) bad = rw bad

pub judged-bad : (by : By) (w : List ℕ) (b : ℕ) (t : List ℕ) → Visible w → (ltb b 32 || ltb 126 b) ≡ true → b ≢ 10 → judged by (lines_of (w ++ b ∷ t)) ≡ Err BYTES
judged-bad by [] b t h bad other =
    let line : (b == 10) ≡ false = grind (arith, nat_tests) in
    ap (judged by) (not-line b t line) ∙ bad-by by b (lines_of t) bad
judged-bad by (x ∷ w) b t h bad other = letter x by (w ++ b ∷ t) h.0 h.1 ∙ judged-bad (λ ws. by (with_letter x ws)) w b t h.2 bad other

-- a text that ends in a word
judged-end : (by : By) (w : List ℕ) → Visible w → judged by (lines_of w) ≡ Err UNENDED
judged-end by [] h = refl
judged-end by (x ∷ w) h = letter x by w h.0 h.1 ∙ judged-end (λ ws. by (with_letter x ws)) w h.2

-- the same of a text that was gone through up to the end of a word

-- what follows the space or the LF that ends a word
pub space-at : (e : End) (i : ℕ) (s t : List ℕ) → e ≡ ends.Space → EndsBy e i s → t ≡ drop (i + 1) s → drop i s ≡ 32 ∷ t
space-at e i s t is end rest = (subst (λ x. EndsBy x i s) is end).1 ∙ ap (λ r. 32 ∷ r) (sym rest)

pub line-at : (e : End) (i : ℕ) (s t : List ℕ) → e ≡ ends.Line → EndsBy e i s → t ≡ drop (i + 1) s → drop i s ≡ 10 ∷ t
line-at e i s t is end rest = (subst (λ x. EndsBy x i s) is end).1 ∙ ap (λ r. 10 ∷ r) (sym rest)

pub read-space : (by : By) (s : List ℕ) (i : ℕ) (t : List ℕ) → Visible (take i s) → drop i s ≡ 32 ∷ t → judged by (lines_of s) ≡ judged (λ ws. by (take i s ∷ ws)) (lines_of t)
read-space by s i t h at = ap (λ l. judged by (lines_of l)) (cut-at i s 32 t at) ∙ judged-space by (take i s) t h

pub read-line : (by : By) (s : List ℕ) (i : ℕ) (t : List ℕ) → Visible (take i s) → drop i s ≡ 10 ∷ t → judged by (lines_of s) ≡ by (take i s ∷ [])
read-line by s i t h at = ap (λ l. judged by (lines_of l)) (cut-at i s 10 t at) ∙ judged-line by (take i s) t h

pub read-bad : (by : By) (e : End) (s : List ℕ) (i : ℕ) → Visible (take i s) → e ≡ ends.Bad → EndsBy e i s → judged by (lines_of s) ≡ Err BYTES
read-bad by e s i h is at =
    let end = subst (λ x. EndsBy x i s) is at in
    ap (λ l. judged by (lines_of l)) (cut-at i s end.0 (drop (i + 1) s) end.3.1) ∙ judged-bad by (take i s) end.0 (drop (i + 1) s) h end.1 end.2

pub read-end : (by : By) (e : End) (s : List ℕ) (i : ℕ) → Visible (take i s) → e ≡ ends.Text → EndsBy e i s → judged by (lines_of s) ≡ Err UNENDED
read-end by e s i h is end =
    let at : drop i s ≡ [] = subst (λ x. EndsBy x i s) is end in
    let whole : s ≡ take i s = sym (take-append-drop i s) ∙ (ap (λ t. take i s ++ t) at ∙ append-nil (take i s)) in
    ap (λ l. judged by (lines_of l)) whole ∙ judged-end by (take i s) h

shorter : (s : List ℕ) (i b : ℕ) (t : List ℕ) → drop i s ≡ b ∷ t → length t < length s
shorter s i b t at =
    let long = ap length at in let all = length-drop i s in omega (arith, long, all)

pub leaves-line : (s : List ℕ) (i : ℕ) (t : List ℕ) → Visible (take i s) → drop i s ≡ 10 ∷ t → Leaves s t
leaves-line s i t h at = (ap (λ l. behind (lines_of l)) (cut-at i s 10 t at) ∙ behind-line (take i s) t h, shorter s i 10 t at)

leaves-space : (s : List ℕ) (i : ℕ) (t rest : List ℕ) → Visible (take i s) → drop i s ≡ 32 ∷ t → Leaves t rest → Leaves s rest
leaves-space s i t rest h at left =
    let less = left.1 in let more = shorter s i 32 t at in
    (ap (λ l. behind (lines_of l)) (cut-at i s 32 t at) ∙ (behind-space (take i s) t h ∙ left.0), omega (arith, less, more))

pub on-ok : (r : Result Step ℕ) (P : Type 0) → P → OnOk r P
on-ok (Ok step) P h = h
on-ok (Err code) P h = tt

pub on-space : (r : Result Step ℕ) (s : List ℕ) (i : ℕ) (t rest : List ℕ) → Visible (take i s) → drop i s ≡ 32 ∷ t → OnOk r (Leaves t rest) → OnOk r (Leaves s rest)
on-space (Ok step) s i t rest h at left = leaves-space s i t rest h at left
on-space (Err code) s i t rest h at left = tt

-- a line of too many words

pub judged-same : (by other : By) (ls : List Line) → ((w : List ℕ) (ws : List (List ℕ)) → by (w ∷ ws) ≡ other (w ∷ ws)) → judged by ls ≡ judged other ls
judged-same by other [] same = refl
judged-same by other (l ∷ ls) same =
    let some = words_of-some l.bytes in
    let here : by (words_of l.bytes) ≡ other (words_of l.bytes) = ap by some.2 ∙ (same some.0 some.1 ∙ sym (ap other some.2)) in
    ap (λ r. if any_bad l.bytes then Err BYTES else (if l.ended then r else Err UNENDED)) here

-- sixteen bytes at once

turned-by : (b : ℕ) (low high : Bool) → leb 33 b ≡ low → leb b 126 ≡ high → b < 256 → ltb ((b + 129) % 256) 162 ≡ not (low && high)
turned-by b true true p q lt = grind (arith, nat_tests)
turned-by b true false p q lt = grind (arith, nat_tests)
turned-by b false high p q lt = grind (arith, nat_tests)

-- a byte less 127, which wraps below it, tells whether it ends a word
turned : (b : ℕ) → b < 256 → ltb ((b + 129) % 256) 162 ≡ not (is_visible b)
turned b lt = turned-by b (leb 33 b) (leb b 126) refl refl lt

bit-by : (v : Bool) → (cond {A = ℕ} (not v) 1 0 ≡ 1) ↔ (v ≡ false)
bit-by true = (λ h. cc, λ h. cc)
bit-by false = (λ h. refl, λ h. refl)

pub bit-tells : (m : ℕ) (b : ℕ) → b < 256 → m ≡ cond {A = ℕ} (ltb ((b + 129) % 256) 162) 1 0 → (m ≡ 1) ↔ (is_visible b ≡ false)
bit-tells m b lt is =
    let e : m ≡ cond {A = ℕ} (not (is_visible b)) 1 0 = is ∙ ap (λ t. cond {A = ℕ} t 1 0) (turned b lt) in
    let t = bit-by (is_visible b) in
    (λ h. t.0 (sym e ∙ h), λ h. e ∙ t.1 h)

-- the mask of the first sixteen bytes
module _ (f : ℕ → ℕ → ℕ) (s : List ℕ) (long : 16 ≤ length s) (less : (b : ℕ) → b < 256 → f b 127 ≡ (b + 129) % 256) (bytes : (j : ℕ) → get_or s j 0 < 256) where
  abbrev lanes : List ℕ
  lanes = zip2 f (take 16 s) (replicate 16 127)

  pub length-lanes : length lanes ≡ 16
  length-lanes = let n = length-take-le 16 s long in length-zip2 f (take 16 s) (replicate 16 127) n ∙ n

  lane : (k : ℕ) → k < 16 → get_or lanes k 200 ≡ (get_or s k 0 + 129) % 256
  lane k lt =
      get_or-zip2 f (take 16 s) (replicate 16 127) k 0 0 200 (let n = length-take-le 16 s long in omega (arith, n, lt)) lt
      ∙ (ap (f (get_or (take 16 s) k 0)) (get_or-replicate 16 k 127 0 lt) ∙ (ap (λ b. f b 127) (get_or-take 16 s k 0 lt) ∙ less (get_or s k 0) (bytes k)))

  bit : (k : ℕ) → bit_at (mask_l (map (λ x. ltb x 162) lanes)) k ≡ cond (ltb (get_or lanes k 200) 162) 1 0
  bit k = bit_mask_l (map (λ x. ltb x 162) lanes) k ∙ ap (λ b. cond b 1 0) (get_or-map (λ x. ltb x 162) lanes k 200)

  past : (ys : List ℕ) (k : ℕ) → length ys ≤ k → get_or ys k 200 ≡ 200
  past [] k le = refl
  past (y ∷ ys) zero le = absurd (omega arith)
  past (y ∷ ys) (suc k) le = past ys k (omega arith)

  end-bits : (k : ℕ) (near : Bool) → ltb k 16 ≡ near → (bit_at (mask_l (map (λ x. ltb x 162) lanes)) k ≡ 1) ↔ ((k < 16) × (is_visible (get_or s k 0) ≡ false))
  end-bits k true is =
      let lt : k < 16 = grind (arith, nat_tests) in
      let t = bit-tells (bit_at (mask_l (map (λ x. ltb x 162) lanes)) k) (get_or s k 0) (bytes k) (bit k ∙ ap (λ x. cond {A = ℕ} (ltb x 162) 1 0) (lane k lt)) in
      (λ h. (lt, t.0 h), λ h. t.1 h.1)
  end-bits k false is =
      let far : 16 ≤ k = grind (arith, nat_tests) in
      let none : bit_at (mask_l (map (λ x. ltb x 162) lanes)) k ≡ 0 = bit k ∙ ap (λ x. cond {A = ℕ} (ltb x 162) 1 0) (past lanes k (let n = length-lanes in omega (arith, n, far))) in
      (λ h. absurd (omega (arith, h, none)), λ h. absurd (let near = h.0 in omega (arith, near, far)))

  pub ends-told : (k : ℕ) → (bit_at (mask_l (map (λ x. ltb x 162) lanes)) k ≡ 1) ↔ ((k < 16) × (is_visible (get_or s k 0) ≡ false))
  ends-told k = end-bits k (ltb k 16) refl

-- a word up to a place, none of whose bytes ends it
pub visible-to : (s : List ℕ) (i : ℕ) → i ≤ length s → ((k : ℕ) → k < i → is_visible (get_or s k 0) ≡ true) → Visible (take i s)
visible-to s zero le seen = tt
visible-to [] (suc i) le seen = tt
visible-to (x ∷ xs) (suc i) le seen =
    let here = seen 0 (omega arith) in
    (grind (arith, nat_tests), grind (arith, nat_tests), visible-to xs i (omega arith) (λ k lt. seen (suc k) (omega arith)))

not-false : (v : Bool) → (v ≡ false → ⊥) → v ≡ true
not-false true h = refl
not-false false h = absurd (h refl)

-- the first bit of the mask is the end of the first word
pub first-end : (s : List ℕ) (m i : ℕ) → 16 ≤ length s → ((k : ℕ) → (bit_at m k ≡ 1) ↔ ((k < 16) × (is_visible (get_or s k 0) ≡ false)))
    → bit_at m i ≡ 1 → ((k : ℕ) → k < i → bit_at m k ≡ 0) → (i < length s) × Visible (take i s) × (is_visible (get_or s i 0) ≡ false)
first-end s m i long tells one none =
    let end = (tells i).0 one in
    let near = end.0 in (
      omega (arith, near, long),
      visible-to s i (omega (arith, near, long)) (λ k lt. not-false (is_visible (get_or s k 0)) (λ h. let set = (tells k).1 (omega (arith, near, lt), h) in let unset = none k lt in omega (arith, set, unset))),
      end.1,
    )
