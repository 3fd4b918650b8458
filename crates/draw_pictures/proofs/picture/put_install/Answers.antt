use Rattle.std.proofs.Common.{List, ℕ, ◌≡◌, ◌++◌, Result, Ok, Err, OnOk, codes, string_bytes, ap, ◌∙◌, append_assoc}
use Rattle.std.specs.Prelude.{if◌then◌else◌}
use Rattle.std.specs.Result.{is_ok}
use Rattle.stm_model.specs.Algorithms.{alg_name}
use Rattle.draw_pictures.proofs.picture.put_install.Goals as goal

after-two : {T E : Type 0} (r : Result T E) (t0 t1 t2 a b : List ℕ) → t1 ≡ t0 ++ a → t2 ≡ (if is_ok r then t1 ++ b else t1) → OnOk r (t2 ≡ t0 ++ (a ++ b))
after-two (Ok u) t0 t1 t2 a b p q = q ∙ (ap (λ t. t ++ b) p ∙ append_assoc t0 a b)
after-two (Err e) t0 t1 t2 a b p q = tt

pub returns : goal.returns
returns c =
    let named : string_bytes c.push_str.new.self ≡ string_bytes c.args.text.now ++ alg_name c.args.alg = c.in_ok-push_str.ensures.bytes ∙ ap (λ t. string_bytes c.args.text.now ++ t) c.name.ensures in
    after-two c.push_str-2.result (string_bytes c.args.text.now) (string_bytes c.push_str.new.self) (string_bytes c.push_str-2.new.self)
    (alg_name c.args.alg) (codes " from here</text>\n") named c.push_str-2.ensures.bytes
