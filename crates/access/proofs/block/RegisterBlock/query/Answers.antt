use Rattle.std.proofs.Common.{rules, ◌∙◌}
use mathlib.Core.Path.{refl, sym, ap}
use native.Mathlib.Omega.{arith}
use Rattle.model.specs.Event.{said}
use Rattle.access.specs.Of.{ask_of}
use Rattle.std.proofs.lemmas.Option.{slice_get_within, get_or_from_slice_get}
use Rattle.access.proofs.Primitive.{ask_ten, ask_eleven, ask_entered, none_left}
use Rattle.access.proofs.block.RegisterBlock.query.Goals as goal

pub returns-then-self-entries : goal.returns-then-self-entries
returns-then-self-entries c =
    record {
      makes = record {
        lent = record { log = refl; answers = refl; limit = refl };
        tally = refl;
        grows = omega arith;
        works = λ t few. ask_ten _ _ few refl _ _ c.if-self-entries.true;
      };
      says = tt;
      rises = search rules;
    }

pub returns-in_default : goal.returns-in_default
returns-in_default c =
    record {
      makes = record {
        lent = record { log = refl; answers = c.read.ensures.lent; limit = refl };
        tally = refl;
        grows = omega arith;
        works = λ t few.
            rw (c.read.ensures.place, c.in_default.is)
            (ask_eleven _ _ few refl _ _ c.if-self-entries.false
            (none_left _ _ (sym c.read.ensures.next ∙ c.in_default.is)));
      };
      says = tt;
      rises = search rules;
    }

pub log_entry-requires : goal.log_entry-requires
log_entry-requires c = omega (arith, c.if-self-entries.false)

pub returns : goal.returns
returns c =
    let found = sym c.read.ensures.next ∙ c.in-Some.is in
    let says = c.said-word.ensures ∙ ap (said (ask_of c.args.access))
    (sym (get_or_from_slice_get c.args.self.now.answers.words.now c.args.self.now.answers.at _ 0 found)) in
    record {
      makes = record {
        lent = record { log = refl; answers = c.read.ensures.lent; limit = refl };
        tally = refl;
        grows = omega arith;
        works = λ t few.
            rw (c.read.ensures.place, c.in-Some.is)
            (ask_entered _ _ few refl _ _ _ c.if-self-entries.false (slice_get_within _ _ _ found) c.log_entry.ensures
            c.head.ensures says);
      };
      says = says;
      rises = λ y. (omega arith, omega (arith, c.if-self-entries.false));
    }
