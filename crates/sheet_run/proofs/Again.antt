-- Demand 3 on bytes, from the law for chains and that on the bytes.
use mathlib.Core.Path.{◌≡◌, refl, sym, ap, ◌∙◌}
use mathlib.Core.List.{List}
use mathlib.Core.Logic.{⊎_elim}
use Prim.Native.Nat.{ℕ}
use native.Mathlib.Omega.{arith}
use lib.ListN.{replicate}
use Rattle.model.specs.State.{State}
use Rattle.model.specs.Limit.{Ended, AgainCall}
use Rattle.chain.proofs.Entry.{chain_again}
use Rattle.lines.specs.Text.{printed}
use Rattle.sheet.specs.Sheet.{Parsed, refused, sheet, parse, continued_bytes}
use Rattle.sheet.proofs.SheetLaws.{continues}
use Rattle.sheet_run.specs.Run.{chain_in, sheet_outcome, sheet_state}
use Rattle.sheet_run.specs.Print.{ending_in, end_state, printed_sheet}
use Rattle.sheet_run.specs.Laws.{SheetAgain, LinesAgain}

pub sheet_again : SheetAgain
unfolding sheet_outcome
sheet_again l xs bs c log = by (parse bs) refl
  where
    by : (p : Parsed) → parse bs ≡ p → Ended (sheet_outcome p log).number
        → AgainCall l (sheet_outcome p log) (sheet_outcome (parse (continued_bytes l xs bs)) log)
    by refused e = λ h. absurd (⊎_elim (λ z. omega (arith, z)) (λ z. omega (arith, z)) h)
    by (sheet s) e =
        rw (continues l xs bs s c.bytes e c.word c.words c.fits)
        (chain_again (chain_in s) s.limit l s.answers xs log s.memory c.some)

-- the lines of an outcome
lines_of : State → List ℕ
lines_of st = printed st.log (ending_in st)

lines_are : (bs : List ℕ) → printed_sheet bs ≡ lines_of (sheet_outcome (parse bs) (replicate 8192 0))
unfolding printed_sheet end_state sheet_state lines_of
lines_are bs = refl

pub lines_again : LinesAgain
unfolding end_state sheet_state
lines_again l xs bs c e h =
    lines_are (continued_bytes l xs bs)
    ∙ ap lines_of ((sheet_again l xs bs c (replicate 8192 0) e).alike h) ∙ sym (lines_are bs)
