-- The tally of verdicts on a list of cases.
use Rattle.std.specs.Prelude.{ℕ, ◌+◌, ◌%◌, ◌^◌, Some, None, unwrap_or}
use Rattle.verdicts.specs.declared.Verdict.{Verdict}
use Rattle.verdicts.specs.declared.Tally.{Tally}

-- of no case
abbrev pub none : Tally
none = record { replayed = 0; excluded = 0; differ = 0; first = None }

-- a count with more; it goes round at 2^64
abbrev pub more : ℕ → ℕ → ℕ
more n k = (n + k) % 2 ^ 64

-- with one case more: the first that differs is the case after all that were compared or excluded
abbrev pub tallied : Verdict → Tally → Tally
tallied Verdict.Same t =
    record { replayed = more t.replayed 1; excluded = t.excluded; differ = t.differ; first = t.first }
tallied Verdict.Excluded t =
    record { replayed = t.replayed; excluded = more t.excluded 1; differ = t.differ; first = t.first }
tallied Verdict.Different t =
    record {
      replayed = more t.replayed 1;
      excluded = t.excluded;
      differ = more t.differ 1;
      first = Some (unwrap_or t.first (more (more t.replayed 1) t.excluded));
    }
