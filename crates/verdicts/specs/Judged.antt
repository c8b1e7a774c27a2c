-- What the comparison of a case finds.
use Rattle.std.specs.Prelude.{ℕ, Bool, cond, List, bytes_eq, unwrap_or}
use Rattle.verdicts.specs.Departures.{agreed}
use Rattle.verdicts.specs.declared.Verdict.{Verdict}

-- is it an answer that the library may give: the oracle's, or where a departure is about the case what that asks for
abbrev pub allowed : List ℕ → List ℕ → List ℕ → Bool
allowed case oracle library = unwrap_or (agreed case oracle library) (bytes_eq oracle library)

-- the same answer; excluded where another is due and the library gives it; else different
unfoldable pub judged : List ℕ → List ℕ → List ℕ → Verdict
judged case oracle library =
    cond (allowed case oracle library)
    (cond (bytes_eq oracle library) Verdict.Same Verdict.Excluded) Verdict.Different
