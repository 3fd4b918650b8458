-- What a turn says is read back from its words.
use Rattle.std.proofs.Common.{ℕ, ◌≡◌, ◌<◌, ◌^◌, List, [], ◌∷◌, ◌++◌, false, refl, sym, ap, ◌∙◌, append-nil}
use Rattle.std.specs.Prelude.{Some, codes}
use Rattle.std.specs.Fmt.{decimal}
use Rattle.stm_model.specs.Algorithms.{alg_name}
use Rattle.stm_model.specs.declared.alg.Alg.{Alg}
use Rattle.stm_model.specs.declared.alg.Alg.TheVariants.{Cgl, Tml, OrecLazy, OrecEager, RingSw, Serial}
use Rattle.stm_model.specs.declared.stop.Cause.{Cause}
use Rattle.stm_model.specs.declared.stop.Cause.TheVariants.{Clock, Record, Moved, Filter, Overrun}
use Rattle.stm_model.specs.declared.stop.Stop.{Stop}
use Rattle.stm_model.specs.declared.stop.Stop.TheVariants.{Conflict, Full, ClockFull}
use Rattle.work_script.specs.declared.op.Op.{Op}
use Rattle.work_script.specs.declared.op.Op.TheVariants.{Read, Write, Add, Move, Cancel, Irrev, Emit, Count, Total, ListInsert, ListRemove, ListContains, ListLength, HashInsert, HashRemove, HashContains, TreeInsert, TreeRemove, TreeContains, TreeLeast, QueuePut, QueueGet, MapPut, MapRemove, MapGet, MapSum}
use Rattle.work_script.specs.Operations.{op_name}
use Rattle.work_text.specs.Lines.{number_of}
use Rattle.work_text.proofs.Numbers.{number_of-decimal}
use Rattle.work_text.specs.WordLaws.{Visible, AllVisible, seen, visible-decimal}
use Rattle.stm_answers.specs.declared.answers.Begin.TheVariants.{Begun, Closed, Held, ClockFull}
use Rattle.stm_answers.specs.declared.answers.Cancel.TheVariants.{Cancelled, Irrevocable}
use Rattle.stm_answers.specs.declared.answers.CloseGate.TheVariants.{Closed, Taken}
use Rattle.stm_answers.specs.declared.answers.Commit.TheVariants.{Committed, ReadOnly, Conflict, Again, ClockFull}
use Rattle.stm_answers.specs.declared.answers.Irrev.TheVariants as irrevs
use Rattle.stm_answers.specs.declared.answers.Look.TheVariants.{Quiet, Busy}
use Rattle.work_trace.specs.declared.said.Phase.{Phase}
use Rattle.work_trace.specs.declared.said.Phase.TheVariants.{Between, Inside, Closing, Quiet as Quietly}
use Rattle.work_trace.specs.declared.said.Said.{Said}
use Rattle.work_trace.specs.declared.said.Said.TheVariants.{TryBegin, Reply, Stopped, TryCancel, TryIrrevocable, TryCommit, TryClose, Looked, Installed, Reserved, Idle, Dropped, Reopened}
use Rattle.work_trace.specs.Texts.{cause_bytes, stop_bytes, said_bytes}
use Rattle.work_trace.specs.Turns.{is_call}
use Rattle.draw_core.specs.Grammar.{cause_of, operation_of, said_of}
use Rattle.draw_pictures.specs.Kinds.{said_kind}
use Rattle.draw_core.specs.Phases.{may_come, phase_after}
use Rattle.draw_core.specs.Statements.{CauseHasWords, StopHasWords, SaidHasWords, IsOfMemory}

-- words, each with a space before it
abbrev pub spaced_words : List (List ℕ) → List ℕ
spaced_words [] = []
spaced_words (w ∷ ws) = 32 ∷ w ++ spaced_words ws

-- the words of what was said, and what is read from them: the same, but for what an operation works on
pub record Reads (said : Said) : Type 0 where
  pub words : List (List ℕ)
  pub bytes : said_bytes said ≡ spaced_words words
  pub visible : AllVisible words
  pub read : Said
  pub is : said_of words ≡ Some read
  pub label : said_bytes read ≡ said_bytes said
  pub kind : said_kind read ≡ said_kind said
  pub come : (p : Phase) → may_come p read ≡ may_come p said
  pub after : (p : Phase) → phase_after p read ≡ phase_after p said

-- an operation's name
pub record Named (op : Op) : Type 0 where
  pub like : Op
  pub visible : Visible (op_name op)
  pub name : op_name like ≡ op_name op
  pub step : (ws : List (List ℕ)) → said_of (op_name op ∷ ws) ≡ operation_of like ws

named : (op : Op) → is_call op ≡ false → Named op
named (Read a) c = record { like = Read 0; visible = seen (codes "read") refl; name = refl; step = λ ws. refl }
named (Write a v) c = record { like = Write 0 0; visible = seen (codes "write") refl; name = refl; step = λ ws. refl }
named (Add a k) c = record { like = Add 0 0; visible = seen (codes "add") refl; name = refl; step = λ ws. refl }
named (Move a b k) c = record { like = Move 0 0 0; visible = seen (codes "move") refl; name = refl; step = λ ws. refl }
named Cancel c = absurd cc
named Irrev c = absurd cc
named (Emit a) c = record { like = Emit 0; visible = seen (codes "emit") refl; name = refl; step = λ ws. refl }
named (Count region stripe k) c = record { like = Count 0 0 0; visible = seen (codes "count") refl; name = refl; step = λ ws. refl }
named (Total region) c = record { like = Total 0; visible = seen (codes "total") refl; name = refl; step = λ ws. refl }
named (ListInsert region key) c = record { like = ListInsert 0 0; visible = seen (codes "ladd") refl; name = refl; step = λ ws. refl }
named (ListRemove region key) c = record { like = ListRemove 0 0; visible = seen (codes "ldel") refl; name = refl; step = λ ws. refl }
named (ListContains region key) c = record { like = ListContains 0 0; visible = seen (codes "lhas") refl; name = refl; step = λ ws. refl }
named (ListLength region) c = record { like = ListLength 0; visible = seen (codes "llen") refl; name = refl; step = λ ws. refl }
named (HashInsert region key) c = record { like = HashInsert 0 0; visible = seen (codes "hadd") refl; name = refl; step = λ ws. refl }
named (HashRemove region key) c = record { like = HashRemove 0 0; visible = seen (codes "hdel") refl; name = refl; step = λ ws. refl }
named (HashContains region key) c = record { like = HashContains 0 0; visible = seen (codes "hhas") refl; name = refl; step = λ ws. refl }
named (TreeInsert region key) c = record { like = TreeInsert 0 0; visible = seen (codes "tadd") refl; name = refl; step = λ ws. refl }
named (TreeRemove region key) c = record { like = TreeRemove 0 0; visible = seen (codes "tdel") refl; name = refl; step = λ ws. refl }
named (TreeContains region key) c = record { like = TreeContains 0 0; visible = seen (codes "thas") refl; name = refl; step = λ ws. refl }
named (TreeLeast region) c = record { like = TreeLeast 0; visible = seen (codes "tmin") refl; name = refl; step = λ ws. refl }
named (QueuePut region value) c = record { like = QueuePut 0 0; visible = seen (codes "qput") refl; name = refl; step = λ ws. refl }
named (QueueGet region) c = record { like = QueueGet 0; visible = seen (codes "qget") refl; name = refl; step = λ ws. refl }
named (MapPut region key value) c = record { like = MapPut 0 0 0; visible = seen (codes "mput") refl; name = refl; step = λ ws. refl }
named (MapRemove region key) c = record { like = MapRemove 0 0; visible = seen (codes "mdel") refl; name = refl; step = λ ws. refl }
named (MapGet region key) c = record { like = MapGet 0 0; visible = seen (codes "mget") refl; name = refl; step = λ ws. refl }
named (MapSum region low high) c = record { like = MapSum 0 0 0; visible = seen (codes "msum") refl; name = refl; step = λ ws. refl }

-- an algorithm's name
alg-visible : (alg : Alg) → Visible (alg_name alg)
alg-visible Cgl = seen (codes "CGL") refl
alg-visible Tml = seen (codes "TML") refl
alg-visible OrecLazy = seen (codes "OrecLazy") refl
alg-visible OrecEager = seen (codes "OrecEager") refl
alg-visible RingSw = seen (codes "RingSW") refl
alg-visible Serial = seen (codes "Serial") refl

begin-is : (alg : Alg) → said_of (codes "begin" ∷ alg_name alg ∷ []) ≡ Some (TryBegin (Begun alg))
begin-is Cgl = refl
begin-is Tml = refl
begin-is OrecLazy = refl
begin-is OrecEager = refl
begin-is RingSw = refl
begin-is Serial = refl

install-is : (alg : Alg) → said_of (codes "install" ∷ alg_name alg ∷ []) ≡ Some (Installed alg)
install-is Cgl = refl
install-is Tml = refl
install-is OrecLazy = refl
install-is OrecEager = refl
install-is RingSw = refl
install-is Serial = refl

-- one number, two and three, each with its word
num : (n : ℕ) → n < 2 ^ 64 → number_of (decimal n) ≡ Some n
num n f = number_of-decimal n f

-- why an operation ended its attempt

pub record CauseReads (cause : Cause) : Type 0 where
  pub words : List (List ℕ)
  pub bytes : cause_bytes cause ≡ spaced_words (codes "conflict" ∷ words)
  pub visible : AllVisible words
  pub is : cause_of words ≡ Some cause

clock-by : (u v : List ℕ) (a b : ℕ) → number_of u ≡ Some a → number_of v ≡ Some b → cause_of (codes "clock" ∷ u ∷ v ∷ []) ≡ Some (Clock a b)
clock-by u v a b x y = rw (x, y) refl

filter-by : (u v : List ℕ) (a b : ℕ) → number_of u ≡ Some a → number_of v ≡ Some b → cause_of (codes "filter" ∷ u ∷ v ∷ []) ≡ Some (Filter a b)
filter-by u v a b x y = rw (x, y) refl

overrun-by : (u v : List ℕ) (a b : ℕ) → number_of u ≡ Some a → number_of v ≡ Some b → cause_of (codes "overrun" ∷ u ∷ v ∷ []) ≡ Some (Overrun a b)
overrun-by u v a b x y = rw (x, y) refl

record-by : (u v w : List ℕ) (a b c : ℕ) → number_of u ≡ Some a → number_of v ≡ Some b → number_of w ≡ Some c → cause_of (codes "record" ∷ u ∷ v ∷ w ∷ []) ≡ Some (Record a b c)
record-by u v w a b c x y z = rw (x, y, z) refl

moved-by : (u v w : List ℕ) (a b c : ℕ) → number_of u ≡ Some a → number_of v ≡ Some b → number_of w ≡ Some c → cause_of (codes "moved" ∷ u ∷ v ∷ w ∷ []) ≡ Some (Moved a b c)
moved-by u v w a b c x y z = rw (x, y, z) refl

cause-reads : (cause : Cause) → CauseHasWords cause → CauseReads cause
cause-reads (Clock a b) f = record {
  words = codes "clock" ∷ decimal a ∷ decimal b ∷ [];
  bytes = refl;
  visible = (seen (codes "clock") refl, (visible-decimal a f.0, (visible-decimal b f.1, tt)));
  is = clock-by (decimal a) (decimal b) a b (num a f.0) (num b f.1);
}
cause-reads (Filter a b) f = record {
  words = codes "filter" ∷ decimal a ∷ decimal b ∷ [];
  bytes = refl;
  visible = (seen (codes "filter") refl, (visible-decimal a f.0, (visible-decimal b f.1, tt)));
  is = filter-by (decimal a) (decimal b) a b (num a f.0) (num b f.1);
}
cause-reads (Overrun a b) f = record {
  words = codes "overrun" ∷ decimal a ∷ decimal b ∷ [];
  bytes = refl;
  visible = (seen (codes "overrun") refl, (visible-decimal a f.0, (visible-decimal b f.1, tt)));
  is = overrun-by (decimal a) (decimal b) a b (num a f.0) (num b f.1);
}
cause-reads (Record a b c) f = record {
  words = codes "record" ∷ decimal a ∷ decimal b ∷ decimal c ∷ [];
  bytes = refl;
  visible = (seen (codes "record") refl, (visible-decimal a f.0, (visible-decimal b f.1, (visible-decimal c f.2, tt))));
  is = record-by (decimal a) (decimal b) (decimal c) a b c (num a f.0) (num b f.1) (num c f.2);
}
cause-reads (Moved a b c) f = record {
  words = codes "moved" ∷ decimal a ∷ decimal b ∷ decimal c ∷ [];
  bytes = refl;
  visible = (seen (codes "moved") refl, (visible-decimal a f.0, (visible-decimal b f.1, (visible-decimal c f.2, tt))));
  is = moved-by (decimal a) (decimal b) (decimal c) a b c (num a f.0) (num b f.1) (num c f.2);
}

pub record StopReads (stop : Stop) : Type 0 where
  pub words : List (List ℕ)
  pub bytes : stop_bytes stop ≡ spaced_words words
  pub visible : AllVisible words
  pub is : (op : Op) → operation_of op words ≡ Some (Stopped op stop)

full-by : (op : Op) (w : List ℕ) (n : ℕ) → number_of w ≡ Some n → operation_of op (codes "full" ∷ w ∷ []) ≡ Some (Stopped op (Full n))
full-by op w n x = rw x refl

clockfull-by : (op : Op) (w : List ℕ) (n : ℕ) → number_of w ≡ Some n → operation_of op (codes "clockfull" ∷ w ∷ []) ≡ Some (Stopped op (ClockFull n))
clockfull-by op w n x = rw x refl

conflict-by : (op : Op) (v : List ℕ) (ws : List (List ℕ)) (c : Cause) → cause_of (v ∷ ws) ≡ Some c → operation_of op (codes "conflict" ∷ v ∷ ws) ≡ Some (Stopped op (Conflict c))
conflict-by op v ws c x = rw x refl

conflict-with : (op : Op) (ws : List (List ℕ)) (c : Cause) → cause_of ws ≡ Some c → operation_of op (codes "conflict" ∷ ws) ≡ Some (Stopped op (Conflict c))
conflict-with op [] c x = absurd cc
conflict-with op (v ∷ ws) c x = conflict-by op v ws c x

stop-reads : (stop : Stop) → StopHasWords stop → StopReads stop
stop-reads (Conflict c) f = let r = cause-reads c f in record {
  words = codes "conflict" ∷ r.words;
  bytes = r.bytes;
  visible = (seen (codes "conflict") refl, r.visible);
  is = λ op. conflict-with op r.words c r.is;
}
stop-reads (Full n) f = record {
  words = codes "full" ∷ decimal n ∷ [];
  bytes = refl;
  visible = (seen (codes "full") refl, (visible-decimal n f, tt));
  is = λ op. full-by op (decimal n) n (num n f);
}
stop-reads (ClockFull n) f = record {
  words = codes "clockfull" ∷ decimal n ∷ [];
  bytes = refl;
  visible = (seen (codes "clockfull") refl, (visible-decimal n f, tt));
  is = λ op. clockfull-by op (decimal n) n (num n f);
}

-- an operation's reply, or why it ended its attempt

reply-by : (op : Op) (w : List ℕ) (n : ℕ) → number_of w ≡ Some n → operation_of op (w ∷ []) ≡ Some (Reply op n)
reply-by op w n x = rw x refl

reply-comes : (like op : Op) (n : ℕ) (p : Phase) → may_come p (Reply like n) ≡ may_come p (Reply op n)
reply-comes like op n Between = refl
reply-comes like op n Inside = refl
reply-comes like op n Closing = refl
reply-comes like op n Quietly = refl

stopped-comes : (like op : Op) (stop : Stop) (p : Phase) → may_come p (Stopped like stop) ≡ may_come p (Stopped op stop)
stopped-comes like op stop Between = refl
stopped-comes like op stop Inside = refl
stopped-comes like op stop Closing = refl
stopped-comes like op stop Quietly = refl

reply-reads : (op : Op) (n : ℕ) → n < 2 ^ 64 → Named op → Reads (Reply op n)
reply-reads op n f o = record {
  words = op_name op ∷ decimal n ∷ [];
  bytes = refl;
  visible = (o.visible, (visible-decimal n f, tt));
  read = Reply o.like n;
  is = o.step (decimal n ∷ []) ∙ reply-by o.like (decimal n) n (num n f);
  label = ap (λ name. 32 ∷ (name ++ (32 ∷ (decimal n ++ [])))) o.name;
  kind = refl;
  come = λ p. reply-comes o.like op n p;
  after = λ p. refl;
}

stopped-reads : (op : Op) (stop : Stop) → StopReads stop → Named op → Reads (Stopped op stop)
stopped-reads op stop r o = record {
  words = op_name op ∷ r.words;
  bytes = ap (λ t. 32 ∷ (op_name op ++ t)) r.bytes;
  visible = (o.visible, r.visible);
  read = Stopped o.like stop;
  is = o.step r.words ∙ r.is o.like;
  label = ap (λ name. 32 ∷ (name ++ stop_bytes stop)) o.name;
  kind = refl;
  come = λ p. stopped-comes o.like op stop p;
  after = λ p. refl;
}

-- answers that are read as they are
plain : (said : Said) (words : List (List ℕ)) → said_bytes said ≡ spaced_words words → AllVisible words → said_of words ≡ Some said → Reads said
plain said words bytes visible is = record { words = words; bytes = bytes; visible = visible; read = said; is = is; label = refl; kind = refl; come = λ p. refl; after = λ p. refl }

-- with a number
module _ (w : List ℕ) (n : ℕ) (x : number_of w ≡ Some n) where
  begin-closed-by : said_of (codes "begin" ∷ codes "closed" ∷ w ∷ []) ≡ Some (TryBegin (Closed n))
  begin-closed-by = rw x refl

  begin-held-by : said_of (codes "begin" ∷ codes "held" ∷ w ∷ []) ≡ Some (TryBegin (Held n))
  begin-held-by = rw x refl

  begin-full-by : said_of (codes "begin" ∷ codes "clockfull" ∷ w ∷ []) ≡ Some (TryBegin (ClockFull n))
  begin-full-by = rw x refl

  cancelled-by : said_of (codes "cancel" ∷ codes "cancelled" ∷ w ∷ []) ≡ Some (TryCancel (Cancelled n))
  cancelled-by = rw x refl

  irrev-taken-by : said_of (codes "irrev" ∷ codes "taken" ∷ w ∷ []) ≡ Some (TryIrrevocable (irrevs.Taken n))
  irrev-taken-by = rw x refl

  irrev-full-by : said_of (codes "irrev" ∷ codes "clockfull" ∷ w ∷ []) ≡ Some (TryIrrevocable (irrevs.ClockFull n))
  irrev-full-by = rw x refl

  committed-by : said_of (codes "commit" ∷ codes "committed" ∷ w ∷ []) ≡ Some (TryCommit (Committed n))
  committed-by = rw x refl

  readonly-by : said_of (codes "commit" ∷ codes "readonly" ∷ w ∷ []) ≡ Some (TryCommit (ReadOnly n))
  readonly-by = rw x refl

  commit-full-by : said_of (codes "commit" ∷ codes "clockfull" ∷ w ∷ []) ≡ Some (TryCommit (ClockFull n))
  commit-full-by = rw x refl

  close-taken-by : said_of (codes "close" ∷ codes "taken" ∷ w ∷ []) ≡ Some (TryClose (Taken n))
  close-taken-by = rw x refl

irrev-busy-by : (u v : List ℕ) (a b : ℕ) → number_of u ≡ Some a → number_of v ≡ Some b → said_of (codes "irrev" ∷ codes "busy" ∷ u ∷ v ∷ []) ≡ Some (TryIrrevocable (irrevs.Busy a b))
irrev-busy-by u v a b x y = rw (x, y) refl

look-busy-by : (u v : List ℕ) (a b : ℕ) → number_of u ≡ Some a → number_of v ≡ Some b → said_of (codes "look" ∷ codes "busy" ∷ u ∷ v ∷ []) ≡ Some (Looked (Busy a b))
look-busy-by u v a b x y = rw (x, y) refl

reserve-by : (u v : List ℕ) (a b : ℕ) → number_of u ≡ Some a → number_of v ≡ Some b → said_of (codes "reserve" ∷ u ∷ v ∷ []) ≡ Some (Reserved a b)
reserve-by u v a b x y = rw (x, y) refl

again-by : (u v w : List ℕ) (a b c : ℕ) → number_of u ≡ Some a → number_of v ≡ Some b → number_of w ≡ Some c → said_of (codes "commit" ∷ codes "again" ∷ u ∷ v ∷ w ∷ []) ≡ Some (TryCommit (Again a b c))
again-by u v w a b c x y z = rw (x, y, z) refl

irrev-conflict-by : (ws : List (List ℕ)) (c : Cause) → cause_of ws ≡ Some c → said_of (codes "irrev" ∷ codes "conflict" ∷ ws) ≡ Some (TryIrrevocable (irrevs.Conflict c))
irrev-conflict-by ws c x = rw x refl

commit-conflict-by : (ws : List (List ℕ)) (c : Cause) → cause_of ws ≡ Some c → said_of (codes "commit" ∷ codes "conflict" ∷ ws) ≡ Some (TryCommit (Conflict c))
commit-conflict-by ws c x = rw x refl

-- WHAT A TURN SAYS IS READ
pub said-reads : (said : Said) → SaidHasWords said → IsOfMemory said → Reads said
said-reads (TryBegin (Begun alg)) f of-memory =
    plain (TryBegin (Begun alg)) (codes "begin" ∷ alg_name alg ∷ []) (ap (λ t. codes " begin " ++ t) (sym (append-nil (alg_name alg)))) (seen (codes "begin") refl, (alg-visible alg, tt)) (begin-is alg)
said-reads (TryBegin (Closed n)) f of-memory =
    plain (TryBegin (Closed n)) (codes "begin" ∷ codes "closed" ∷ decimal n ∷ []) refl
    (seen (codes "begin") refl, (seen (codes "closed") refl, (visible-decimal n f, tt))) (begin-closed-by (decimal n) n (num n f))
said-reads (TryBegin (Held n)) f of-memory =
    plain (TryBegin (Held n)) (codes "begin" ∷ codes "held" ∷ decimal n ∷ []) refl
    (seen (codes "begin") refl, (seen (codes "held") refl, (visible-decimal n f, tt))) (begin-held-by (decimal n) n (num n f))
said-reads (TryBegin (ClockFull n)) f of-memory =
    plain (TryBegin (ClockFull n)) (codes "begin" ∷ codes "clockfull" ∷ decimal n ∷ []) refl
    (seen (codes "begin") refl, (seen (codes "clockfull") refl, (visible-decimal n f, tt))) (begin-full-by (decimal n) n (num n f))
said-reads (Reply op n) f of-memory = reply-reads op n f (named op of-memory)
said-reads (Stopped op stop) f of-memory = stopped-reads op stop (stop-reads stop f) (named op of-memory)
said-reads (TryCancel (Cancelled n)) f of-memory =
    plain (TryCancel (Cancelled n)) (codes "cancel" ∷ codes "cancelled" ∷ decimal n ∷ []) refl
    (seen (codes "cancel") refl, (seen (codes "cancelled") refl, (visible-decimal n f, tt))) (cancelled-by (decimal n) n (num n f))
said-reads (TryCancel Irrevocable) f of-memory = plain (TryCancel Irrevocable) (codes "cancel" ∷ codes "irrevocable" ∷ []) refl (seen (codes "cancel") refl, (seen (codes "irrevocable") refl, tt)) refl
said-reads (TryIrrevocable irrevs.Granted) f of-memory = plain (TryIrrevocable irrevs.Granted) (codes "irrev" ∷ codes "granted" ∷ []) refl (seen (codes "irrev") refl, (seen (codes "granted") refl, tt)) refl
said-reads (TryIrrevocable (irrevs.Busy a b)) f of-memory =
    plain (TryIrrevocable (irrevs.Busy a b)) (codes "irrev" ∷ codes "busy" ∷ decimal a ∷ decimal b ∷ []) refl
    (seen (codes "irrev") refl, (seen (codes "busy") refl, (visible-decimal a f.0, (visible-decimal b f.1, tt))))
    (irrev-busy-by (decimal a) (decimal b) a b (num a f.0) (num b f.1))
said-reads (TryIrrevocable (irrevs.Taken n)) f of-memory =
    plain (TryIrrevocable (irrevs.Taken n)) (codes "irrev" ∷ codes "taken" ∷ decimal n ∷ []) refl
    (seen (codes "irrev") refl, (seen (codes "taken") refl, (visible-decimal n f, tt))) (irrev-taken-by (decimal n) n (num n f))
said-reads (TryIrrevocable (irrevs.Conflict c)) f of-memory =
    let r = cause-reads c f in
    plain (TryIrrevocable (irrevs.Conflict c)) (codes "irrev" ∷ codes "conflict" ∷ r.words) (ap (λ t. codes " irrev" ++ t) r.bytes)
    (seen (codes "irrev") refl, (seen (codes "conflict") refl, r.visible)) (irrev-conflict-by r.words c r.is)
said-reads (TryIrrevocable (irrevs.ClockFull n)) f of-memory =
    plain (TryIrrevocable (irrevs.ClockFull n)) (codes "irrev" ∷ codes "clockfull" ∷ decimal n ∷ []) refl
    (seen (codes "irrev") refl, (seen (codes "clockfull") refl, (visible-decimal n f, tt))) (irrev-full-by (decimal n) n (num n f))
said-reads (TryCommit (Committed n)) f of-memory =
    plain (TryCommit (Committed n)) (codes "commit" ∷ codes "committed" ∷ decimal n ∷ []) refl
    (seen (codes "commit") refl, (seen (codes "committed") refl, (visible-decimal n f, tt))) (committed-by (decimal n) n (num n f))
said-reads (TryCommit (ReadOnly n)) f of-memory =
    plain (TryCommit (ReadOnly n)) (codes "commit" ∷ codes "readonly" ∷ decimal n ∷ []) refl
    (seen (codes "commit") refl, (seen (codes "readonly") refl, (visible-decimal n f, tt))) (readonly-by (decimal n) n (num n f))
said-reads (TryCommit (Conflict c)) f of-memory =
    let r = cause-reads c f in
    plain (TryCommit (Conflict c)) (codes "commit" ∷ codes "conflict" ∷ r.words) (ap (λ t. codes " commit" ++ t) r.bytes)
    (seen (codes "commit") refl, (seen (codes "conflict") refl, r.visible)) (commit-conflict-by r.words c r.is)
said-reads (TryCommit (Again a b c)) f of-memory =
    plain (TryCommit (Again a b c)) (codes "commit" ∷ codes "again" ∷ decimal a ∷ decimal b ∷ decimal c ∷ []) refl
    (seen (codes "commit") refl, (seen (codes "again") refl, (visible-decimal a f.0, (visible-decimal b f.1, (visible-decimal c f.2, tt)))))
    (again-by (decimal a) (decimal b) (decimal c) a b c (num a f.0) (num b f.1) (num c f.2))
said-reads (TryCommit (ClockFull n)) f of-memory =
    plain (TryCommit (ClockFull n)) (codes "commit" ∷ codes "clockfull" ∷ decimal n ∷ []) refl
    (seen (codes "commit") refl, (seen (codes "clockfull") refl, (visible-decimal n f, tt))) (commit-full-by (decimal n) n (num n f))
said-reads (TryClose Closed) f of-memory = plain (TryClose Closed) (codes "close" ∷ codes "closed" ∷ []) refl (seen (codes "close") refl, (seen (codes "closed") refl, tt)) refl
said-reads (TryClose (Taken n)) f of-memory =
    plain (TryClose (Taken n)) (codes "close" ∷ codes "taken" ∷ decimal n ∷ []) refl
    (seen (codes "close") refl, (seen (codes "taken") refl, (visible-decimal n f, tt))) (close-taken-by (decimal n) n (num n f))
said-reads (Looked Quiet) f of-memory = plain (Looked Quiet) (codes "look" ∷ codes "quiet" ∷ []) refl (seen (codes "look") refl, (seen (codes "quiet") refl, tt)) refl
said-reads (Looked (Busy a b)) f of-memory =
    plain (Looked (Busy a b)) (codes "look" ∷ codes "busy" ∷ decimal a ∷ decimal b ∷ []) refl
    (seen (codes "look") refl, (seen (codes "busy") refl, (visible-decimal a f.0, (visible-decimal b f.1, tt))))
    (look-busy-by (decimal a) (decimal b) a b (num a f.0) (num b f.1))
said-reads (Installed alg) f of-memory =
    plain (Installed alg) (codes "install" ∷ alg_name alg ∷ []) (ap (λ t. codes " install " ++ t) (sym (append-nil (alg_name alg)))) (seen (codes "install") refl, (alg-visible alg, tt)) (install-is alg)
said-reads (Reserved a b) f of-memory =
    plain (Reserved a b) (codes "reserve" ∷ decimal a ∷ decimal b ∷ []) refl
    (seen (codes "reserve") refl, (visible-decimal a f.0, (visible-decimal b f.1, tt)))
    (reserve-by (decimal a) (decimal b) a b (num a f.0) (num b f.1))
said-reads Idle f of-memory = plain Idle (codes "idle" ∷ []) refl (seen (codes "idle") refl, tt) refl
said-reads Dropped f of-memory = plain Dropped (codes "drop" ∷ []) refl (seen (codes "drop") refl, tt) refl
said-reads Reopened f of-memory = plain Reopened (codes "reopen" ∷ []) refl (seen (codes "reopen") refl, tt) refl
