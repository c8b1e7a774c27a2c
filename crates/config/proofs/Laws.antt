-- The two classes of numbers, number by number.
use Rattle.std.proofs.Common.{◌≡◌, ℕ, false, inl, inr, refl, arith}
use mathlib.Core.Logic.{⊎_elim}
use Rattle.config.specs.declared.error.QspiError.TheVariants.{Timeout, Unsupported, SpiMode, Instance, Qpi, Length}
use Rattle.config.specs.declared.error.QspiError.TheVariants.{Limit, Chain, Window, Log, Answers, Divider, Sheet}
use Rattle.config.specs.declared.error.QspiError.TheVariants.{Cycles, NoClock}
use Rattle.config.specs.Error.{touches_nothing}
use Rattle.config.specs.Laws.{NeverMet, OneOfTwo, NotDone}

pub never_met : NeverMet
never_met n t =
    ⊎_elim (other 0 refl) (⊎_elim (other 1 refl) (⊎_elim (other 2 refl) (⊎_elim (other 10 refl) (other 11 refl))))
  where
    other : (k : ℕ) → touches_nothing k ≡ false → n ≡ k → ⊥
    other k f e = cc

pub one_of_two : OneOfTwo
one_of_two Timeout = inr (inr (inl refl))
one_of_two Unsupported = inr (inr (inr (inl refl)))
one_of_two SpiMode = inl refl
one_of_two Instance = inl refl
one_of_two Qpi = inl refl
one_of_two Length = inl refl
one_of_two Limit = inl refl
one_of_two Chain = inl refl
one_of_two Window = inl refl
one_of_two Log = inr (inr (inr (inr (inl refl))))
one_of_two Answers = inr (inr (inr (inr (inr refl))))
one_of_two Divider = inl refl
one_of_two Sheet = inl refl
one_of_two Cycles = inl refl
one_of_two NoClock = inl refl

pub not_done : NotDone
not_done Timeout h = omega (arith, h)
not_done Unsupported h = omega (arith, h)
not_done SpiMode h = omega (arith, h)
not_done Instance h = omega (arith, h)
not_done Qpi h = omega (arith, h)
not_done Length h = omega (arith, h)
not_done Limit h = omega (arith, h)
not_done Chain h = omega (arith, h)
not_done Window h = omega (arith, h)
not_done Log h = omega (arith, h)
not_done Answers h = omega (arith, h)
not_done Divider h = omega (arith, h)
not_done Sheet h = omega (arith, h)
not_done Cycles h = omega (arith, h)
not_done NoClock h = omega (arith, h)
