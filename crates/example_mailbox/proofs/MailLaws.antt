-- What a call on one of the queues does to the mailbox, and what transactions of its parts come to.
use Rattle.std.proofs.Common.{ℕ, ◌≡◌, ◌<◌, ◌+◌, List, [], ◌∷◌, Bool, true, false, Some, None, Ok, length, length-append, replicate, ap, arith, inl, inr}
use Rattle.std.specs.Prelude.{◌⊎◌, ◌^◌, not}
use Rattle.tx_jobs.specs.Jobs.{Log, times, times-first, times-last}
use Rattle.tx_parts.specs.Laying.{ComesAwaited}
use Rattle.tx_parts.specs.ToldLaws.{either-told, awaited-told}
use Rattle.data_queue.specs.Queues.{IsQueue, QueueFits, put_in, got_in}
use Rattle.data_queue.specs.Statements.{AreApart}
use Rattle.data_queue.specs.QueueLaws.{zeros-empty, replies-tell, beside}
use Rattle.example_mailbox.specs.declared.mail.Mailbox.{Mailbox}
use Rattle.example_mailbox.specs.Mail.{queue_of, Fits, IsMailbox, put_of, Posts, Takes, PostTells, ReceiveTells, Deed, Posted, Received, Moves, Did, waiting, posts, receives}

apart : (mailbox : Mailbox) (urgent : Bool) → AreApart (queue_of mailbox urgent) (queue_of mailbox (not urgent))
apart mailbox true = inl (omega arith)
apart mailbox false = inr (omega arith)

both : (mailbox : Mailbox) (urgent : Bool) (m : List ℕ) → IsQueue (queue_of mailbox urgent) m → IsQueue (queue_of mailbox (not urgent)) m → IsMailbox mailbox m
both mailbox true m this other = elim [ true ↦ this | false ↦ other ]
both mailbox false m this other = elim [ true ↦ other | false ↦ this ]

fits-queue : (mailbox : Mailbox) (words : ℕ) (urgent : Bool) (m : List ℕ) → Fits mailbox words → length m ≡ words → QueueFits (queue_of mailbox urgent) (length m)
fits-queue mailbox words urgent m fits long = let h = fits.1 in let k = fits.2 in (fits.0, grind (arith, h, long), grind (arith, k))

-- a memory of zeros has two empty queues
pub zeros-well : (mailbox : Mailbox) (words : ℕ) → IsMailbox mailbox (replicate words 0)
zeros-well mailbox words urgent = (zeros-empty (queue_of mailbox urgent) words).0

-- a put and a get keep the rule, and do this
module _ (mailbox : Mailbox) (words : ℕ) (fits : Fits mailbox words) (urgent : Bool) (m : List ℕ) (well : IsMailbox mailbox m) (long : length m ≡ words) where
  pub put-does : (message : ℕ) → message < 2 ^ 32 → (let e = put_in (queue_of mailbox urgent) message m in IsMailbox mailbox e.memory × Posts mailbox urgent message e.reply m e.memory)
  put-does message small =
      let here = fits-queue mailbox words urgent m fits long in
      let told = (replies-tell (queue_of mailbox urgent) m (well urgent) here).0 message small in
      let other = (beside (queue_of mailbox urgent) (queue_of mailbox (not urgent)) m message (apart mailbox urgent) (well urgent) here (well (not urgent))).0 in
      (both mailbox urgent _ told.0 other.0, (told.1, other.1))

  pub get-does : (let e = got_in (queue_of mailbox urgent) m in IsMailbox mailbox e.memory × Takes mailbox urgent e.reply m e.memory)
  get-does =
      let here = fits-queue mailbox words urgent m fits long in
      let told = replies-tell (queue_of mailbox urgent) m (well urgent) here in
      let other = (beside (queue_of mailbox urgent) (queue_of mailbox (not urgent)) m 0 (apart mailbox urgent) (well urgent) here (well (not urgent))).1 in
      (both mailbox urgent _ told.1 other.0, (told.2, other.1))

-- a transaction that waits for a post is the deed of it, and one that waits for an urgent message or else another
-- receives
pub posts-it : (mailbox : Mailbox) (words first room : ℕ) (urgent : Bool) (message : ℕ) (log : Log) → ComesAwaited (IsMailbox mailbox) words first room (PostTells mailbox words urgent message) (Some (Ok tt)) log
    → Did mailbox words (Posted urgent message) log
posts-it mailbox words first room urgent message log came =
    awaited-told (IsMailbox mailbox) words (PostTells mailbox words urgent message) (λ o. Posts mailbox urgent message (put_of o)) (λ o l k told. told) first room tt log came

pub receives-it : (mailbox : Mailbox) (words first room message : ℕ) (log : Log) → ComesAwaited (IsMailbox mailbox) words first room (ReceiveTells mailbox words) (Some (Ok message)) log
    → Did mailbox words (Received message) log
receives-it mailbox words first room message log came m good long ex =
    elim (awaited-told (IsMailbox mailbox) words (ReceiveTells mailbox words)
    (λ o m n. Takes mailbox true o m n ⊎ ((gone : List ℕ) × Takes mailbox true None m gone × Takes mailbox false o m n))
    (either-told (IsMailbox mailbox) words (Takes mailbox true) (Takes mailbox false)) first room message log came m good long ex)
    [ inl first ↦ inl first | inr second ↦ inr (second.1.0.0, second.2.0, second.2.1) ]

-- no deed leaves the messages as they were
pub changes : (deed : Deed) (mail : Bool → List ℕ) → Moves deed mail mail → ⊥
changes (Posted urgent x) mail moved = let more = ap length moved.0 in let long = length-append (mail urgent) (x ∷ []) in omega (arith, more, long)
changes (Received x) mail (inl moved) = let less = ap length moved.0 in omega (arith, less)
changes (Received x) mail (inr moved) = let less = ap length moved.1 in omega (arith, less)

-- and each keeps how often a message was posted, or waits to be received
pub weighs : (message : ℕ) (d : Deed) (a b : Bool → List ℕ) → Moves d a b → waiting message a + posts message d ≡ receives message d + waiting message b
weighs message (Posted true x) a b moved = let here = ap (times message) moved.0 in let more = times-last message (a true) x in let other = ap (times message) moved.1 in omega (arith, here, more, other)
weighs message (Posted false x) a b moved = let here = ap (times message) moved.0 in let more = times-last message (a false) x in let other = ap (times message) moved.1 in omega (arith, here, more, other)
weighs message (Received x) a b (inl moved) = let here = ap (times message) moved.0 in let less = times-first message x (b true) in let other = ap (times message) moved.1 in omega (arith, here, less, other)
weighs message (Received x) a b (inr moved) = let here = ap (times message) moved.1 in let less = times-first message x (b false) in let other = ap (times message) moved.2 in omega (arith, here, less, other)
