-- What a sink shows, and what it was given.
use Rattle.std.specs.Prelude.{◌≡◌, ℕ, List, ◌++◌}

-- what a sink shows at a moment
pub record SinkAt : Type 0 where
  -- all that was written, where it is observed
  pub bytes : List ℕ
  -- how often it failed, and how often it had no memory
  pub faults : ℕ
  pub shortages : ℕ

-- a part of the text from its start was appended, or the whole
pub record WritesPart (old text new : List ℕ) : Type 0 where
  pub part : List ℕ
  pub rest : List ℕ
  pub parted : text ≡ part ++ rest
  pub grown : new ≡ old ++ part
