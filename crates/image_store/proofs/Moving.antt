-- Which folders an import moved into images, from step to step.
use Rattle.std.proofs.Common.{◌≡◌, ◌⊎◌, inl, inr, ℕ, Bool, true, false, not, ◌||◌, Result, Ok, Err, List, [], ◌∷◌, ◌++◌, append_assoc, append-nil, refl, sym, ap, subst, ◌∙◌}
use Rattle.std.specs.Prelude.{IfOk}
use Rattle.ac_types.specs.declared.store_key.StoreKey.{StoreKey}
use Rattle.dir_model.specs.declared.area.Area.{Area}
use Rattle.dir_model.specs.declared.event.Event.{Event}
use Rattle.dir_model.specs.declared.spot.Handle.{Handle}
use Rattle.dir_model.specs.declared.spot.Mode.TheVariants.{Shared}
use Rattle.dir_model.specs.declared.spot.Spot.{Spot}
use Rattle.dir_model.specs.declared.request.DirError.{DirError}
use Rattle.dir_model.specs.declared.request.DirError.TheVariants.{Exists}
use Rattle.dir_model.specs.declared.request.Reply.{Reply}
use Rattle.dir_model.specs.declared.request.Reply.TheVariants.{Done, Refused}
use Rattle.dir_model.specs.declared.request.Request.{Request}
use Rattle.dir_model.specs.declared.request.Request.TheVariants.{MoveFolder, Close}
use Rattle.dir_model.specs.Calls.{CallStep, TookPlace, LeftNothing, Extends, event, is_foreign}
use Rattle.dir_model.proofs.Lists.{all_both, all_weaker, or_map, or_last}
use Rattle.dir_trait.specs.DirCalls.{DirAt, DirCall}
use Rattle.dir_trait.specs.Effects.{OnlyAsks}
use Rattle.dir_files.specs.AreaLocks.{is_taking_area, closes}
use Rattle.folder_building.proofs.Following.{GivesBack}
use Rattle.image_reading.specs.declared.error.StoreError.{StoreError}
use Rattle.image_reading.specs.Looks.{reads_image, OnlyReadsImage}
use Rattle.image_reading.specs.Places.{image_spot}
use Rattle.image_store.specs.Refusals.{move_answer}
use Rattle.image_store.specs.Requests.{brings_image, is_close, makes_image}
use Rattle.image_store.specs.Moves.{BringsNone, MovedNoImage, MovedOnce, Moves}
use Rattle.image_store.proofs.Locked.{Shares}

-- requests of which none moves a folder
abbrev pub is_move : Request → Bool
is_move (MoveFolder from to) = true
is_move request = false

stays_out : (request : Request) (reply : Reply) → is_move request ≡ false → not (brings_image request reply) ≡ true
stays_out (MoveFolder from to) reply off = cc
stays_out request reply off = refl

-- in a stretch of such requests nothing was moved
pub nothing_by : (asks : Request → Bool) {me : ℕ} {old new : List Event} → ((r : Request) → asks r ≡ true → is_move r ≡ false) → Extends asks me old new → MovedNoImage me old new
nothing_by asks {me} {old} {new} off e = record {
  more = e.more;
  grown = e.grown;
  none = all_weaker (λ x. (is_foreign me x || asks x.request) ≡ true) (λ x. (is_foreign me x || not (brings_image x.request x.reply)) ≡ true)
      (λ x. or_map (is_foreign me x) (asks x.request) (not (brings_image x.request x.reply)) (λ a. stays_out x.request x.reply (off x.request a))) e.more e.asked;
}

reads_move_none : (key : StoreKey) (r : Request) → reads_image key r ≡ true → is_move r ≡ false
reads_move_none key (MoveFolder from to) h = cc
reads_move_none key r h = refl

takes_move_none : (area : Area) (r : Request) → is_taking_area area Shared r ≡ true → is_move r ≡ false
takes_move_none area (MoveFolder from to) h = cc
takes_move_none area r h = refl

makes_move_none : (spot : Spot) (r : Request) → makes_image spot r ≡ true → is_move r ≡ false
makes_move_none spot (MoveFolder from to) h = cc
makes_move_none spot r h = refl

closes_move_none : (h : Handle) (r : Request) → closes h r ≡ true → is_move r ≡ false
closes_move_none h (MoveFolder from to) is = cc
closes_move_none h r is = refl

closes_close : (h : Handle) (r : Request) → closes h r ≡ true → is_close r ≡ true
closes_close h (Close given) is = refl
closes_close h r is = cc

pub nothing_moved : {me : ℕ} {old : List Event} → MovedNoImage me old old
nothing_moved {me} {old} = record { more = []; grown = sym (append-nil old); none = tt }

pub nothing_read : {observed : Bool} (key : StoreKey) {a b : DirAt} → OnlyReadsImage observed key a b → observed ≡ true → MovedNoImage a.process a.trace b.trace
nothing_read {observed} key r t = nothing_by (reads_image key) (reads_move_none key) (r.extends t)

pub nothing_built : {observed : Bool} (spot : Spot) {a b : DirAt} → OnlyAsks observed (makes_image spot) a b → observed ≡ true → MovedNoImage a.process a.trace b.trace
nothing_built {observed} spot w t = nothing_by (makes_image spot) (makes_move_none spot) (w.extends t)

pub nothing_shared : (area : Area) {me : ℕ} {old new : List Event} → Extends (is_taking_area area Shared) me old new → MovedNoImage me old new
nothing_shared area e = nothing_by (is_taking_area area Shared) (takes_move_none area) e

-- one stretch after the other
pub nothing_more : {me : ℕ} {a b c : List Event} → MovedNoImage me a b → MovedNoImage me b c → MovedNoImage me a c
nothing_more {me} {a} {b} {c} x y = record {
  more = x.more ++ y.more;
  grown = y.grown ∙ (ap (λ (h : List Event). h ++ y.more) x.grown ∙ append_assoc a x.more y.more);
  none = all_both _ x.more y.more x.none y.none;
}

once_after : {me : ℕ} {from to : Spot} {a b c : List Event} → MovedNoImage me a b → MovedOnce me from to b c → MovedOnce me from to a c
once_after {me} {from} {to} {a} {b} {c} x y = record {
  meanwhile = x.more ++ y.meanwhile;
  later = y.later;
  moved = y.moved ∙ ap (λ (h : List Event). h ++ event me (MoveFolder from to) Done ∷ y.later) (ap (λ (h : List Event). h ++ y.meanwhile) x.grown ∙ append_assoc a x.more y.meanwhile);
  none = all_both _ x.more y.meanwhile x.none y.none;
  last = y.last;
}

once_before : {me : ℕ} {from to : Spot} (h : Handle) {a b c : List Event} → MovedOnce me from to a b → Extends (closes h) me b c → MovedOnce me from to a c
once_before {me} {from} {to} h {a} {b} {c} x e = record {
  meanwhile = x.meanwhile;
  later = x.later ++ e.more;
  moved = e.grown ∙ (ap (λ (l : List Event). l ++ e.more) x.moved ∙ append_assoc (a ++ x.meanwhile) (event me (MoveFolder from to) Done ∷ x.later) e.more);
  none = x.none;
  last = all_both _ x.later e.more x.last (all_weaker (λ x. (is_foreign me x || closes h x.request) ≡ true) (λ x. (is_foreign me x || is_close x.request) ≡ true)
      (λ x. or_map (is_foreign me x) (closes h x.request) (is_close x.request) (closes_close h x.request)) e.more e.asked);
}

module _ (from : Spot) (key : StoreKey) where
  -- after a stretch in which nothing was moved
  pub moves_after : (r : Result Bool StoreError) (a b c : DirAt) → b.process ≡ a.process → MovedNoImage a.process a.trace b.trace → Moves from key r b c → Moves from key r a c
  moves_after (Ok false) a b c same x y = once_after x (subst (λ (me : ℕ). MovedOnce me from (image_spot key) b.trace c.trace) same y)
  moves_after (Ok true) a b c same x y = nothing_more x (subst (λ (me : ℕ). MovedNoImage me b.trace c.trace) same y)
  moves_after (Err e) a b c same x y = nothing_more x (subst (λ (me : ℕ). MovedNoImage me b.trace c.trace) same y)

  -- and before a lock is given back
  pub moves_before : (r : Result Bool StoreError) (h : Handle) (a b c : DirAt) → b.process ≡ a.process → Moves from key r a b → Extends (closes h) b.process b.trace c.trace → Moves from key r a c
  moves_before (Ok false) h a b c same x e = once_before h x (subst (λ (me : ℕ). Extends (closes h) me b.trace c.trace) same e)
  moves_before (Ok true) h a b c same x e = nothing_more x (nothing_by (closes h) (closes_move_none h) (subst (λ (me : ℕ). Extends (closes h) me b.trace c.trace) same e))
  moves_before (Err error) h a b c same x e = nothing_more x (nothing_by (closes h) (closes_move_none h) (subst (λ (me : ℕ). Extends (closes h) me b.trace c.trace) same e))

  -- under a lock
  pub moves_under : {observed : Bool} {area : Area} {h : Handle} (r : Result Bool StoreError) (a b c d : DirAt) → observed ≡ true → Shares observed area h a b → c.process ≡ b.process → GivesBack observed h c d → Moves from key r b c → Moves from key r a d
  moves_under {observed} {area} {h} r a b c d t s same g x =
      moves_before r h a c d (same ∙ s.same) (moves_after r a b c s.same (nothing_shared area (s.extends t)) x) (g.extends t)

  -- where the answer isn't that the folder was brought
  pub moves_none : (r : Result Bool StoreError) (a b : DirAt) → (r ≡ Ok false → ⊥) → MovedNoImage a.process a.trace b.trace → Moves from key r a b
  moves_none (Ok false) a b other x = absurd (other refl)
  moves_none (Ok true) a b other x = x
  moves_none (Err e) a b other x = x

  -- the move that was answered Ok, and the one that was refused
  pub moved_done : {observed : Bool} {old new : DirAt} → observed ≡ true → DirCall observed old (MoveFolder from (image_spot key)) Done new → MovedOnce old.process from (image_spot key) old.trace new.trace
  moved_done {observed} {old} {new} t call = by c.own
    where
      c : CallStep old.process old.trace (MoveFolder from (image_spot key)) Done new.trace
      c = call.step t

      by : TookPlace c.before old.process (MoveFolder from (image_spot key)) Done new.trace ⊎ LeftNothing c.before old.process (MoveFolder from (image_spot key)) Done new.trace → MovedOnce old.process from (image_spot key) old.trace new.trace
      by (inl took) = record {
        meanwhile = c.meanwhile.others;
        later = [];
        moved = took.grown ∙ ap (λ (h : List Event). h ++ event old.process (MoveFolder from (image_spot key)) Done ∷ []) c.meanwhile.grown;
        none = all_weaker (λ x. is_foreign old.process x ≡ true) (λ x. (is_foreign old.process x || not (brings_image x.request x.reply)) ≡ true)
            (λ x foreign. ap (λ b. b || not (brings_image x.request x.reply)) foreign) c.meanwhile.others c.meanwhile.foreign;
        last = tt;
      }
      by (inr left) = let late = left.late in cc

  pub moved_not : {observed : Bool} {old new : DirAt} (e : DirError) → observed ≡ true → DirCall observed old (MoveFolder from (image_spot key)) (Refused e 0) new → MovedNoImage old.process old.trace new.trace
  moved_not {observed} {old} {new} e t call = by c.own
    where
      c : CallStep old.process old.trace (MoveFolder from (image_spot key)) (Refused e 0) new.trace
      c = call.step t

      foreign : BringsNone old.process c.meanwhile.others
      foreign = all_weaker (λ x. is_foreign old.process x ≡ true) (λ x. (is_foreign old.process x || not (brings_image x.request x.reply)) ≡ true)
          (λ x foreign. ap (λ b. b || not (brings_image x.request x.reply)) foreign) c.meanwhile.others c.meanwhile.foreign

      by : TookPlace c.before old.process (MoveFolder from (image_spot key)) (Refused e 0) new.trace ⊎ LeftNothing c.before old.process (MoveFolder from (image_spot key)) (Refused e 0) new.trace → MovedNoImage old.process old.trace new.trace
      by (inl took) =
          let step : Event = event old.process (MoveFolder from (image_spot key)) (Refused e 0) in record {
            more = c.meanwhile.others ++ step ∷ [];
            grown = took.grown ∙ (ap (λ (h : List Event). h ++ step ∷ []) c.meanwhile.grown ∙ append_assoc old.trace c.meanwhile.others (step ∷ []));
            none = all_both _ c.meanwhile.others (step ∷ []) foreign (or_last (is_foreign old.process step) true refl, tt);
          }
      by (inr left) = record { more = c.meanwhile.others; grown = left.same ∙ c.meanwhile.grown; none = foreign }

  pub answered_not : {observed : Bool} (e : DirError) (old new : DirAt) → observed ≡ true → DirCall observed old (MoveFolder from (image_spot key)) (Refused e 0) new → Moves from key (move_answer e) old new
  answered_not Exists old new t call = moved_not Exists t call
  answered_not e old new t call = moved_not e t call

-- what was moved, by the answer of the whole import
pub moves_refused : (from : Spot) (key : StoreKey) (r : Result Bool StoreError) (e : StoreError) (a b : DirAt) → r ≡ Err e → Moves from key r a b → MovedNoImage a.process a.trace b.trace
moves_refused from key r e a b is x = subst (λ (q : Result Bool StoreError). Moves from key q a b) is x

-- and it isn't brought where another image stood
pub not_brought : (r : Result Bool StoreError) → r ≡ Ok false → IfOk r (λ there. there ≡ true) → ⊥
not_brought (Ok there) is h =
    let same : there ≡ false = cc in
    let clash : true ≡ false = sym h ∙ same in
    cc
not_brought (Err e) is h = cc
