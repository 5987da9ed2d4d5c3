-- Calls one after the other, and what they leave of a directory.
use Rattle.std.proofs.Common.{◌≡◌, ℕ, Bool, true, List, Result, Ok, Err, refl, ◌∙◌, arith}
use Rattle.dir_model.specs.declared.item.Inner.{Inner}
use Rattle.dir_model.specs.declared.request.DirError.{DirError}
use Rattle.dir_model.specs.declared.request.Request.{Request}
use Rattle.dir_model.specs.declared.request.Request.TheVariants.{AppendIn}
use Rattle.dir_model.specs.declared.request.Reply.{Reply}
use Rattle.dir_model.specs.Replies.{done_reply, append_reply}
use Rattle.dir_model.specs.Local.{Local, local_replied}
use Rattle.dir_model.proofs.Lists.{or_last}
use Rattle.dir_model.proofs.Chains.{nothing_yet, and_call, and_more, extends_wider}
use Rattle.dir_trait.specs.DirCalls.{DirAt, DirCall, AppendCall}
use Rattle.dir_trait.specs.Effects.{OnlyAsks}
use Rattle.folder_building.specs.Work.{either}

pub worked_none : {observed : Bool} {asks : Request → Bool} {d : DirAt} → OnlyAsks observed asks d d
worked_none = record { same = refl; faults = omega arith; local = refl; extends = λ t. nothing_yet }

pub worked_call : {observed : Bool} {asks : Request → Bool} {old new : DirAt} {request : Request} {reply : Reply} → asks request ≡ true → local_replied old.local request reply ≡ old.local → DirCall observed old request reply new → OnlyAsks observed asks old new
worked_call asked local c = record { same = c.same; faults = c.faults; local = c.local ∙ local; extends = λ t. and_call nothing_yet refl asked (c.step t) }

pub worked_more : {observed : Bool} {asks : Request → Bool} {a b c : DirAt} → OnlyAsks observed asks a b → OnlyAsks observed asks b c → OnlyAsks observed asks a c
worked_more ab bc = record {
  same = bc.same ∙ ab.same;
  faults = omega (arith, ab.faults, bc.faults);
  local = bc.local ∙ ab.local;
  extends = λ t. and_more (ab.extends t) ab.same (bc.extends t);
}

pub worked_wider : {observed : Bool} {asks more : Request → Bool} {old new : DirAt} → ((r : Request) → asks r ≡ true → more r ≡ true) → OnlyAsks observed asks old new → OnlyAsks observed more old new
worked_wider wider w = record { same = w.same; faults = w.faults; local = w.local; extends = λ t. extends_wider wider (w.extends t) }

-- what one of two asks for, either asks for
pub in_first : (a b : Request → Bool) (r : Request) → a r ≡ true → either a b r ≡ true
in_first a b r h = rw h refl

pub in_second : (a b : Request → Bool) (r : Request) → b r ≡ true → either a b r ≡ true
in_second a b r h = or_last (a r) (b r) h

-- an append, with the bytes that it left, is a call
append_local : (m : Local) (inner : Inner) (piece : List ℕ) (answer : Result (Unit {0}) DirError) (left : ℕ) → local_replied m (AppendIn inner piece) (done_reply answer) ≡ local_replied m (AppendIn inner piece) (append_reply answer left)
append_local m inner piece (Ok done) left = refl
append_local m inner piece (Err error) left = refl

pub append_call : {observed : Bool} {old new : DirAt} (inner : Inner) (piece : List ℕ) (answer : Result (Unit {0}) DirError) → observed ≡ true → AppendCall observed old (AppendIn inner piece) answer new → (left : ℕ) × DirCall observed old (AppendIn inner piece) (append_reply answer left) new
append_call {observed} {old} {new} inner piece answer t c = (
  (c.step t).left,
  record {
    counted = c.counted;
    same = c.same;
    faults = c.faults;
    local = c.local ∙ append_local old.local inner piece answer (c.step t).left;
    step = λ o. (c.step t).step;
  },
)

-- it changes nothing that is open
kept_local : (m : Local) (inner : Inner) (piece : List ℕ) (answer : Result (Unit {0}) DirError) → local_replied m (AppendIn inner piece) (done_reply answer) ≡ m
kept_local m inner piece (Ok done) = refl
kept_local m inner piece (Err error) = refl

pub worked_append : {observed : Bool} {asks : Request → Bool} {old new : DirAt} (inner : Inner) (piece : List ℕ) (answer : Result (Unit {0}) DirError) → asks (AppendIn inner piece) ≡ true → AppendCall observed old (AppendIn inner piece) answer new → OnlyAsks observed asks old new
worked_append {observed} {asks} {old} {new} inner piece answer asked c = record {
  same = c.same;
  faults = c.faults;
  local = c.local ∙ kept_local old.local inner piece answer;
  extends = λ t. and_call nothing_yet refl asked (c.step t).step;
}
