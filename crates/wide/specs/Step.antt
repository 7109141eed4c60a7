-- What one step of long division gives: quotient and remainder, both one word. Assumes nothing.
use Rattle.std.specs.Prelude.{ℕ, ◌/◌, ◌%◌}
use Rattle.wide.specs.declared.divide.Step.{Step}

abbrev pub division_step : ℕ → ℕ → Step
division_step n d = record { quotient = n / d; rest = n % d }
