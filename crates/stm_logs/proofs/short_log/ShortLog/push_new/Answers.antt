use Rattle.std.proofs.Common.{◌≡◌, ◌<◌, [], ◌∷◌, length, length-append, ap, ◌∙◌, arith}
use Rattle.std.specs.Prelude.{None}
use Rattle.stm_model.specs.Memories.{item_at}
use Rattle.stm_logs.specs.LogStates.{LogState}
use Rattle.stm_logs.proofs.PushLemmas.{pushes-new}
use Rattle.stm_logs.proofs.ShortLemmas.{kept-more}
use Rattle.stm_logs.proofs.short_log.ShortLog.push_new.Goals as goal

pub invariant_of-self : goal.invariant_of-self
invariant_of-self c =
    let i = c.self.invariant in
    let xs = c.self.inside.items.items in
    let new : item_at c.args.a xs ≡ None = ap (λ (l : LogState). item_at c.args.a l.items) c.self.view_is ∙ c.requires in
    let low : length xs < c.self.inside.short = omega (arith, c.if-len-self.false, c.len.ensures, c.self.inside.items.ok.0) in
    rw (c.push_reserved.ensures.items, c.push_reserved.ensures.capacity, c.bit_of.ensures) (
      kept-more c.self.inside.short c.self.inside.seen c.self.inside.generation c.args.a c.args.v xs c.self.inside.index.items low new i.0,
      i.1,
      i.2,
      omega (arith, length-append xs ((c.args.a, c.args.v) ∷ []), i.1),
      i.4,
      i.5,
      i.6,
      i.7,
    )

pub returns : goal.returns
returns c =
    let i = c.self.invariant in
    let xs = c.self.inside.items.items in
    let new : item_at c.args.a xs ≡ None = ap (λ (l : LogState). item_at c.args.a l.items) c.self.view_is ∙ c.requires in
    let room : length xs < c.self.inside.len = omega (arith, c.if-len-self.false, c.len.ensures, c.self.inside.items.ok.0, i.1) in
    rw (← c.self.view_is) (pushes-new _ c.args.repeat c.args.a c.args.v c.push_reserved.new.self.items new room c.push_reserved.ensures.items)
