-- Bit 8 may be set before or after a change of the bits below it.
use mathlib.Core.Path.{◌≡◌, ap, sym, ◌∙◌}
use Prim.Native.Nat.{ℕ, ◌+◌, ◌*◌, ◌/◌, ◌%◌, ◌<◌}
use native.Mathlib.Omega.{arith}
use Rattle.model.specs.Field.{set_field}

-- a change of the bits below bit 8
pub record Below (f : ℕ → ℕ) : Type 0 where
  pub keeps : (a b : ℕ) → b < 256 → f (a * 256 + b) ≡ a * 256 + f b
  pub fits : (b : ℕ) → b < 256 → f b < 256

pub bit_0 : (v : ℕ) → Below (set_field 0 1 v)
unfolding set_field
bit_0 v = record { keeps = λ a b h. omega arith; fits = λ b h. omega arith }

pub bit_1 : (v : ℕ) → Below (set_field 1 1 v)
unfolding set_field
bit_1 v = record { keeps = λ a b h. omega arith; fits = λ b h. omega arith }

pub bit_6 : (v : ℕ) → Below (set_field 6 1 v)
unfolding set_field
bit_6 v = record { keeps = λ a b h. omega arith; fits = λ b h. omega arith }

pub after : {f g : ℕ → ℕ} → Below f → Below g → Below (λ w. f (g w))
after {f} {g} p q =
    record { keeps = λ a b h. ap f (q.keeps a b h) ∙ p.keeps a (g b) (q.fits b h); fits = λ b h. p.fits (g b) (q.fits b h) }

set_8 : (a b : ℕ) → b < 256 → set_field 8 1 1 (a * 256 + b) ≡ (a / 2 * 2 + 1) * 256 + b
unfolding set_field
set_8 a b h = omega arith

pub bit_8_first : {f : ℕ → ℕ} → Below f → (w : ℕ) → f (set_field 8 1 1 w) ≡ set_field 8 1 1 (f w)
bit_8_first {f} p w =
    let b : w % 256 < 256 = omega arith in
    let e : w ≡ w / 256 * 256 + w % 256 = omega arith in
    ap (λ x. f (set_field 8 1 1 x)) e
    ∙ ap f (set_8 (w / 256) (w % 256) b)
    ∙ p.keeps _ (w % 256) b
    ∙ sym (ap (λ x. set_field 8 1 1 (f x)) e ∙ ap (set_field 8 1 1) (p.keeps (w / 256) (w % 256) b) ∙ set_8 (w / 256) (f (w % 256)) (p.fits _ b))
