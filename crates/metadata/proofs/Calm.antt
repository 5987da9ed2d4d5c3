-- The looks of the metadata service change nothing that stands.
use Rattle.std.proofs.Common.{◌≡◌, true, refl}
use Rattle.dir_model.specs.declared.spot.Mode.TheVariants.{Shared, Exclusive}
use Rattle.dir_model.specs.declared.request.Request.{Request}
use Rattle.dir_model.specs.declared.request.Request.TheVariants.{Open, TryLock, Close, ListArea, ReadIn}
use Rattle.pod_report.proofs.QuietSurvey.{is_calm}
use Rattle.metadata.specs.Looks.{looks_in_run}

pub looks_calm : (r : Request) → looks_in_run r ≡ true → is_calm r ≡ true
looks_calm (Open spot which) h = refl
looks_calm (TryLock handle Shared) h = refl
looks_calm (TryLock handle Exclusive) h = cc
looks_calm (Close handle) h = refl
looks_calm (ListArea area) h = refl
looks_calm (ReadIn inner at room) h = refl
looks_calm r h = cc
