-- What is open while a pod is made.
use Rattle.std.proofs.Common.{◌≡◌, false, not, ◌==◌, cond, IfOk, Some, None, Result, Ok, Err, List, [], ◌∷◌, ◌++◌, refl, sym, ap, ◌∙◌}
use Rattle.plain_laws.proofs.Lists.{none_before, none_last}
use Rattle.plain_laws.proofs.Numbers.{flipped}
use Rattle.dir_model.specs.declared.area.Area.{Area}
use Rattle.dir_model.specs.declared.area.Area.TheVariants.{Embryo}
use Rattle.dir_model.specs.declared.opening.Holding.{Holding}
use Rattle.dir_model.specs.declared.opening.Target.TheVariants.{Own, Gate}
use Rattle.dir_model.specs.declared.pod.PodId.{PodId}
use Rattle.dir_model.specs.declared.spot.Handle.{Handle}
use Rattle.dir_model.specs.declared.spot.Mode.TheVariants.{Shared, Exclusive}
use Rattle.dir_model.specs.Local.{Local, is_handle_of, held_in, with_handle, with_lock, without, IsUnopened}
use Rattle.dir_model.proofs.Lists.{same_self, map_push, filter_push, filter_past}
use Rattle.dir_model.proofs.Holdings.{closed_after_lock, none_locked, none_closed}
use Rattle.dir_files.specs.AreaLocks.{and_area_lock}
use Rattle.dir_files.proofs.Locking.{unlocked_same}
use Rattle.pod_build.specs.declared.make_error.MakeError.{MakeError}
use Rattle.dir_model.specs.Spots.{pod_spot}
use Rattle.pod_build.specs.Progress.{and_own, with_own}

pub locked_own : {a b : Local} (m : Local) (h : Handle) (draw : PodId) → IsUnopened m h → a ≡ with_handle m h (Own (pod_spot draw Embryo)) → b ≡ with_lock a h Exclusive → b ≡ and_own m draw h
locked_own {a} {b} m h draw unopened open_is lock_is =
    let fresh : Holding = record { handle = h; target = Own (pod_spot draw Embryo); lock = None } in
    lock_is ∙ (ap (λ (x : Local). with_lock x h Exclusive) open_is
    ∙ ap (λ (hs : List Holding). let r : Local = record m { holdings = hs } in r)
    (map_push (held_in h Exclusive) m.holdings fresh ∙ (ap (λ (hs : List Holding). hs ++ held_in h Exclusive fresh ∷ [])
    (none_locked h Exclusive m.holdings unopened) ∙ ap (λ b. m.holdings ++ cond b (record fresh { lock = Some Exclusive }) fresh ∷ []) (same_self h.number))))

pub own_closed : {b c : Local} (m : Local) (h : Handle) (draw : PodId) → IsUnopened m h → b ≡ and_own m draw h → c ≡ without b h → c ≡ m
own_closed {b} {c} m h draw unopened is close_is =
    close_is ∙ (ap (λ (x : Local). without x h) (is ∙ sym (locked_own m h draw unopened refl refl)) ∙ closed_after_lock m h (Own (pod_spot draw Embryo)) unopened Exclusive)

abbrev gate_holding : Handle → Area → Holding
gate_holding g area = record { handle = g; target = Gate area; lock = Some Shared }

abbrev own_holding : PodId → Handle → Holding
own_holding draw h = record { handle = h; target = Own (pod_spot draw Embryo); lock = Some Exclusive }

module _ (m : Local) (g h : Handle) (area : Area) (new : IsUnopened (and_area_lock m g area Shared) h) where
  pub still_unopened : IsUnopened m h
  still_unopened = none_before (is_handle_of h) m.holdings (gate_holding g area) new

  pub other_number : (h.number == g.number) ≡ false
  other_number = flipped g.number h.number (none_last (is_handle_of h) m.holdings (gate_holding g area) new)

  -- the area's lock is given back, and the pod's own is kept
  pub gate_closed : (draw : PodId) → IsUnopened m g → without (and_own (and_area_lock m g area Shared) draw h) g ≡ and_own m draw h
  gate_closed draw unopened = ap (λ (hs : List Holding). let r : Local = record m { holdings = hs } in r)
      (filter_push (λ x. not (is_handle_of g x)) (m.holdings ++ gate_holding g area ∷ []) (own_holding draw h) (ap not other_number)
      ∙ (ap (λ (l : List Holding). l ++ own_holding draw h ∷ []) (filter_past (λ x. not (is_handle_of g x)) m.holdings (gate_holding g area) (ap not (same_self g.number)))
      ∙ ap (λ (l : List Holding). l ++ own_holding draw h ∷ []) (none_closed g m.holdings unopened)))

-- once the lock of embryo is given back
pub gate_given_local : {late new : Local} (m : Local) (g : Handle) (draw : PodId) (r : Result Handle MakeError) → IsUnopened m g → IfOk r (λ own. IsUnopened (and_area_lock m g Embryo Shared) own)
    → late ≡ with_own (and_area_lock m g Embryo Shared) draw r → new ≡ without late g → new ≡ with_own m draw r
gate_given_local m g draw (Ok h) unopened fresh is close_is = close_is ∙ (ap (λ (x : Local). without x g) is ∙ gate_closed m g h Embryo fresh draw unopened)
gate_given_local m g draw (Err e) unopened fresh is close_is = unlocked_same m g Embryo Shared unopened is close_is
