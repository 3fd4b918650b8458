-- A day of mail, from what each caller did.
use Rattle.std.proofs.Common.{ℕ, ◌≡◌, ◌<◌, ◌+◌, List, [], true, false, length, get_or, refl, ◌∙◌, ap, arith, subst}
use Rattle.std.specs.Prelude.{sum_by}
use Rattle.std.proofs.Math.Path.{fun_ext}
use Rattle.std.proofs.lemmas.Bool.Decides.{nat_tests}
use Rattle.tx_jobs.specs.Jobs.{Alg, Config, Entry, InOneOrder, in-one-order, conserved, Came, Past, story, sum-mapped, sum-nothing, times, hit, times-range}
use Rattle.data_queue.specs.QueueLaws.{zeros-empty}
use Rattle.example_mailbox.specs.Mail.{IsMailbox, queue_of, mail_in, Moves, Did, waiting, posts, receives}
use Rattle.example_mailbox.proofs.MailLaws.{weighs}
use Rattle.example_mail_jobs.specs.declared.clerks.Share.{Share}
use Rattle.example_mail_jobs.specs.declared.day.TheConstants.{MAILBOX}
use Rattle.example_mail_jobs.specs.Days.{deed_of, done_by, IsOwn, TellsIn, IsDay, IsThrough}

-- all that was posted is what the two producers posted
all-posted : (x : ℕ) (words : List ℕ) (shares : List Share) (history : List Entry) (a : Share) → ((n : ℕ) → n < 4 → IsOwn n (get_or shares n a))
    → (order : InOneOrder (Did MAILBOX 20) Moves done_by 4 shares history (λ urgent. []) (mail_in MAILBOX words))
    → sum_by (posts x) order.deeds ≡ hit x 0 (length (get_or shares 0 a).messages.items) + hit x 300 (length (get_or shares 1 a).messages.items)
all-posted x words shares history a own order =
    let xs : ℕ → List ℕ = λ n. (get_or shares n a).messages.items in
    let p = ap (times x) ((own 0 (omega arith)).1 (omega arith)) ∙ times-range x 0 (length (xs 0)) in
    let q = ap (times x) ((own 1 (omega arith)).1 (omega arith)) ∙ times-range x 300 (length (xs 1)) in
    let mapped : (n : ℕ) → sum_by (posts x) (done_by n (get_or shares n a)) ≡ sum_by (λ y. posts x (deed_of n y)) (xs n) = λ n. sum-mapped (posts x) (deed_of n) (xs n) in
    omega (arith, order.sums (posts x) a, p, q, mapped 0, mapped 1, mapped 2, mapped 3, sum-nothing (xs 2), sum-nothing (xs 3))

-- where all were posted and none waits, each message was received once
pub all-received : (words : List ℕ) (shares : List Share) (history : List Entry) (a : Share) → IsThrough words shares → (day : IsDay words shares history) → (x : ℕ) → x < 600 → sum_by (receives x) day.order.deeds ≡ 1
all-received words shares history a through day x low =
    let sum = rw (through.0 0 a (omega arith), through.0 1 a (omega arith)) at (all-posted x words shares history a (λ n. day.own n a) day.order) in
    let one : hit x 0 300 + hit x 300 300 ≡ 1 = grind (arith, nat_tests, low) in
    omega (arith, sum, one, day.all x, ap (times x) (through.1 true), ap (times x) (through.1 false))

-- in a memory of 20 words for four callers
pub closed-day : {alg : Alg} {config : Config} {words : List ℕ} {shares : List Share} {past : Past} → config.words ≡ 20 → config.callers ≡ 4
    → Came (IsMailbox MAILBOX) config alg (TellsIn MAILBOX config.words) words shares past → IsDay words shares past.history
closed-day {words = words} {shares = shares} {past = past} sizes callers came =
    let one = in-one-order (IsMailbox MAILBOX) (mail_in MAILBOX) Moves done_by (TellsIn MAILBOX) 20 4 sizes callers (λ n v u w told. told.0) came in
    let order = subst (λ from. InOneOrder (Did MAILBOX 20) Moves done_by 4 shares past.history from (mail_in MAILBOX words)) (fun_ext (λ urgent. (zeros-empty (queue_of MAILBOX urgent) 20).1)) one in
    let own : (n : ℕ) (a : Share) → n < 4 → IsOwn n (get_or shares n a) = λ n a lt. (came.stories n a (omega (arith, callers, lt))).told.1 in
    let a : Share = (story came 0 (omega (arith, callers))).0 in
    record {
      order = order;
      own = own;
      all = λ x. (let same = conserved Moves (waiting x) (posts x) (receives x) (weighs x) order.deeds (λ urgent. []) (mail_in MAILBOX words) order.leads in let none : times x [] ≡ 0 = refl in omega (arith, same, none));
      once = λ x. (let sum = all-posted x words shares past.history a (λ n. own n a) order in let few = (own 0 a (omega arith)).0 in grind (arith, nat_tests, sum, few));
    }
