-- The folders that this process has open.
use Rattle.std.specs.Prelude.{◌≡◌, ◌<◌, ℕ, true, List, map}
use Rattle.dir_model.specs.declared.opening.Holding.{Holding}
use Rattle.dir_model.specs.Local.{is_open_among}
use Rattle.dir_host.specs.declared.open_folders.OpenFolder.{OpenFolder}

-- what each was opened for, and how its lock is held
abbrev pub holdings_of : List OpenFolder → List Holding
holdings_of folders = map (λ f. f.holding) folders

-- each handle with a number below this is open
abbrev pub AreOpenBelow : ℕ → List OpenFolder → Type 0
AreOpenBelow k folders = (n : ℕ) → n < k → is_open_among (record { number = n }) (holdings_of folders) ≡ true
