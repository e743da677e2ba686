-- The part of a line that is shown lies within the line.
use Rattle.std.specs.Prelude.{◌≤◌, ℕ}
use Rattle.showing.specs.declared.line.Window.{Window}

pub record Within (n : ℕ) (w : Window) : Type 0 where
  pub ordered : w.from ≤ w.to
  pub inside : w.to ≤ n
