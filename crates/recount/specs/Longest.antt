-- The words of a log do not say *longest*: where a wait times out and the next one polls the same register, nothing in
-- them parts the two.
use Rattle.std.specs.Prelude.{◌≡◌, [], ◌∷◌, ◌++◌, ℕ, replicate}
use Rattle.model.specs.State.{State}
use Rattle.bus.specs.Calls.{outcome}
use Rattle.bus.specs.Calls.Call.{read_quad}

-- A quad read of one byte: after the data START is set at three polls and clear at the fourth. At limit 2 the data's
-- wait has two of them and Standard's the other two; at limit 3 the data's has three.
unfoldable pub cut_at : ℕ → State
cut_at limit =
    outcome (read_quad 0 (0xab ∷ []) 0 0 1) limit
    (replicate 16 0 ++ 1 ∷ 5 ∷ replicate 3 0x80000000 ++ replicate 3 0) (replicate 82 7) (9 ∷ [])

-- Both end by 1 with the same words, entries, answers taken and polls.
pub record LongestNotInWords : Type 0 where
  pub number : ((cut_at 2).number ≡ 1) × ((cut_at 3).number ≡ 1)
  pub log : (cut_at 3).log ≡ (cut_at 2).log
  pub entries : ((cut_at 2).entries ≡ 41) × ((cut_at 3).entries ≡ 41)
  pub taken : ((cut_at 2).taken ≡ 24) × ((cut_at 3).taken ≡ 24)
  pub polls : ((cut_at 2).tally.polls ≡ 9) × ((cut_at 3).tally.polls ≡ 9)
  pub longest : ((cut_at 2).tally.longest ≡ 2) × ((cut_at 3).tally.longest ≡ 3)
