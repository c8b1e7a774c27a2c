-- A case is judged the same precisely if its two answers are equal and allowed, and excluded only by a departure.
use Rattle.std.proofs.Common.{◌≡◌, Bool, true, false, cond, Option, None, Some, unwrap_or, refl, bytes_eq}
use Rattle.std.proofs.lemmas.Slice.Eq.{bytes_eq-Decides}
use Rattle.verdicts.specs.declared.Verdict.{Verdict}
use Rattle.cases.specs.Number.{number_of, is_hex, value_of, step, digit_of, in_32}
use Rattle.verdicts.specs.Refused.{has_own, oracles_own, refusable, refused, refused_end, refusing}
use Rattle.leaves_qpi.specs.Modes.{record_modes, modes_along, modes_of}
use Rattle.leaves_qpi.specs.Leaves.{has_modes, mode_word, halved, due_byte}
use Rattle.records.specs.Rules.{cycles}
use Rattle.records.specs.Check.{out_of_range, extents_fault, windows_fault, record_fault, records_in, along, checked}
use Rattle.core_delays.specs.Delays.{record_cycles, chain_cycles}
use Rattle.core_delays.specs.Due.{delay_line, digit, due_byte as delay_due_byte, due}
use Rattle.clock.specs.Clocked.{clocked}
use Rattle.verdicts.specs.Departures.{agreed}
use Rattle.verdicts.specs.Judged.{judged}
use Rattle.verdicts.specs.Laws.{SameAreEqual, EqualAreSame, ExcludedIsAgreed, HypothesesMet}

abbrev verdict : Bool → Bool → Verdict
verdict allowed same = cond allowed (cond same Verdict.Same Verdict.Excluded) Verdict.Different

same_if : (a s : Bool) → verdict a s ≡ Verdict.Same → s ≡ true
same_if true true e = refl
same_if true false e = cc
same_if false s e = cc

excluded_if : (r : Option Bool) (s : Bool) → verdict (unwrap_or r s) s ≡ Verdict.Excluded → r ≡ Some true
excluded_if None true e = cc
excluded_if None false e = cc
excluded_if (Some true) s e = refl
excluded_if (Some false) s e = cc

equal_if : (r : Option Bool) → (r ≡ Some false → ⊥) → verdict (unwrap_or r true) true ≡ Verdict.Same
equal_if None n = refl
equal_if (Some true) n = refl
equal_if (Some false) n = absurd (n refl)

pub same_are_equal : SameAreEqual
unfolding judged
same_are_equal case oracle library e = (bytes_eq-Decides oracle library).0 (same_if _ _ e)

pub equal_are_same : EqualAreSame
unfolding judged
equal_are_same case answer allowed =
    let e : bytes_eq answer answer ≡ true = (bytes_eq-Decides answer answer).1 refl in
    rw e (equal_if _ allowed)

pub excluded_is_agreed : ExcludedIsAgreed
unfolding judged
excluded_is_agreed case oracle library e = excluded_if (agreed case oracle library) _ e

pub hypotheses_met : HypothesesMet
unfolding judged agreed has_own oracles_own refusable refused refused_end refusing
    number_of is_hex value_of step digit_of in_32 has_modes mode_word halved due_byte modes_of record_modes modes_along
    cycles out_of_range extents_fault windows_fault record_fault records_in along checked
    record_cycles chain_cycles delay_line digit delay_due_byte due clocked
hypotheses_met =
    record {
      none = refl;
      same = refl;
      refused = refl;
      leaves = refl;
      stays = refl;
      qpi_stays = refl;
      qpi_leaves = refl;
      sheet_leaves = refl;
      sheet_stays = refl;
      no_core = refl;
      no_core_cut = refl;
      no_core_first = refl;
      no_pll = refl;
      no_pll_cut = refl;
      least_pll = refl;
      most_pll = refl;
      above_pll = refl;
      above_pll_cut = refl;
      lasts = refl;
      halved = refl;
      as_halved = refl;
      longest = refl;
      longer = refl;
      phase_stays = refl;
      phase_moves = refl;
    }
