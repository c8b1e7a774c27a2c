use Rattle.std.proofs.Common.{◌∙◌}
use native.Mathlib.Omega.{arith}
use mathlib.Core.Path.{refl, sym, ap}
use Rattle.std.proofs.lemmas.Option.{slice_get_within, get_or_from_slice_get}
use Rattle.std.proofs.lemmas.List.{set-get_or}
use Rattle.model.specs.Event.{said}
use Rattle.model.specs.Event.Ask.{byte}
use Rattle.access.proofs.Primitive.{ask_ten, ask_eleven, ask_entered, none_left}
use Rattle.qspi.proofs.Moving.{getting_begins, getting_on, getting_ends, all_got}
use Rattle.qspi.proofs.phase.gets.Goals as goal

pub loop-byte-init : goal.loop-byte-init
loop-byte-init c = (refl, getting_begins _ _ _ _ _)

pub returns-then-log-entries : goal.returns-then-log-entries
returns-then-log-entries c =
    rw set-get_or
    (getting_ends c.loop-byte.invariant.1 c.loop-byte-test.true
    (λ t few. ask_ten _ _ few refl _ _ c.if-log-entries.true))

pub returns-in_default : goal.returns-in_default
returns-in_default c =
    let at = c.loop-byte in
    let dry = rw at.invariant.0 at (none_left at.answers.words.now at.answers.at (sym c.read.ensures.next ∙ c.in_default.is)) in
    rw (c.read.ensures.place, c.in_default.is, set-get_or)
    (getting_ends at.invariant.1 c.loop-byte-test.true
    (λ t few. ask_eleven _ _ few refl _ _ c.if-log-entries.false dry))

pub log_entry-requires : goal.log_entry-requires
log_entry-requires c = omega (arith, c.if-log-entries.false)

pub loop-byte-preserved : goal.loop-byte-preserved
loop-byte-preserved c =
    let at = c.loop-byte in
    let found = rw at.invariant.0 at (sym c.read.ensures.next ∙ c.in-Some.is) in
    let says = c.said-word.ensures ∙ ap (said byte) (sym (get_or_from_slice_get c.args.answers.words.now at.answers.at _ 0 found)) in (
      c.read.ensures.lent ∙ at.invariant.0,
      rw (c.read.ensures.place, c.in-Some.is)
          (getting_on at.invariant.1 c.loop-byte-test.true says
          (λ t few.
          ask_entered _ _ few refl _ _ _ c.if-log-entries.false (slice_get_within c.args.answers.words.now at.answers.at _ found) c.log_entry.ensures
          c.head.ensures says)),
    )

pub returns : goal.returns
returns c = all_got c.loop-byte.invariant.1 c.loop-byte-test.false
