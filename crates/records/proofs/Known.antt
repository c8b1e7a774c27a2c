-- Every record on the chain has passed its test: its kind is known.
use Rattle.std.proofs.Common.{◌≡◌, ℕ, ◌/◌, true, List, length, Ok, Err}
use Rattle.records.specs.Rules.{highest}
use Rattle.records.specs.Check.{known, field, Checked, ahead, chain_of}
use Rattle.records.specs.Laws.{Each, KindsKnown}
use Rattle.records.proofs.KindLaws.{known_kind}
use Rattle.records.proofs.Holds.{checked_holds}

ahead_each : (P : List ℕ → Type 0) (r : List ℕ) (c : Checked) → P r → Each P (chain_of c)
    → Each P (chain_of (ahead r c))
ahead_each P r (Err f) k h = tt
ahead_each P r (Ok rs) k h = (k, h)

pub kinds_known : KindsKnown
kinds_known rules memory ws =
    let Known : List ℕ → Type 0 = λ r. known (highest rules) (field r 0) ≡ true in
    checked_holds (λ c. Each Known (chain_of c)) rules memory ws tt tt (λ own r e z. tt)
    (λ own r c e h. ahead_each Known r c (known_kind rules memory (length ws / 8) own r e) h)
