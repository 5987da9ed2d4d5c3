-- What holds of a call's Ok for each of many values holds for one of them.
use Rattle.std.proofs.Common.{Result, Ok, Err}
use Rattle.std.specs.Result.{OnOk}

pub ok_at : {T E S : Type 0} (r : Result T E) (P : S → Type 0) (s : S) → OnOk r ((x : S) → P x) → OnOk r (P s)
ok_at (Ok v) P s h = h s
ok_at (Err e) P s h = h
