-- A handle that is asked for its lock is still open.
use Rattle.std.proofs.Common.{◌≡◌, Bool, true, false, cond, Some, Result, Ok, Err, refl, sym, subst, ◌∙◌}
use Rattle.dir_model.specs.declared.spot.Handle.{Handle}
use Rattle.dir_model.specs.declared.spot.Mode.{Mode}
use Rattle.dir_model.specs.declared.opening.Holding.{Holding}
use Rattle.dir_model.specs.declared.request.DirError.{DirError}
use Rattle.dir_model.specs.declared.request.Request.TheVariants.{TryLock}
use Rattle.dir_model.specs.Replies.{done_reply}
use Rattle.dir_model.specs.Local.{Local, is_handle_of, held_in, local_replied, IsOpen}
use Rattle.dir_model.proofs.Lists.{any_map}

pub same_number : (handle : Handle) (mode : Mode) (h : Holding) → is_handle_of handle (held_in handle mode h) ≡ is_handle_of handle h
same_number handle mode h = by (is_handle_of handle h)
  where
    by : (b : Bool) → is_handle_of handle (cond b (record h { lock = Some mode }) h) ≡ is_handle_of handle h
    by true = refl
    by false = refl

pub open_asked : (m n : Local) (handle : Handle) (mode : Mode) (r : Result (Unit {0}) DirError) → IsOpen m handle → n ≡ local_replied m (TryLock handle mode) (done_reply r) → IsOpen n handle
open_asked m n handle mode (Ok done) is e = subst (λ (x : Local). IsOpen x handle) (sym e) (any_map (is_handle_of handle) (held_in handle mode) (same_number handle mode) m.holdings ∙ is)
open_asked m n handle mode (Err error) is e = subst (λ (x : Local). IsOpen x handle) (sym e) is
