-- Connections that were served, one after the other.
use Rattle.std.proofs.Common.{◌≡◌, inl, inr, ◌≤◌, ◌+◌, ℕ, Option, Some, None, option_map, Ok, Err, List, [], ◌∷◌, ◌++◌, length, refl, ap, subst, ◌∙◌}
use Rattle.std.specs.Prelude.{IsErrOf, OnOk}
use Rattle.dir_model.specs.Causes.{Rose}
use Rattle.dir_laws.proofs.Rose.{rose_later, rose_still}
use Rattle.dir_trait.specs.DirCalls.{DirAt}
use Rattle.listener.specs.Connections.{Connection, HungUp, ListenerAt, fresh, past_with_current, HangsUp, WritesText, read_on, written_on}
use Rattle.metadata_request.specs.Inputs.{unread_of, HasRead}
use Rattle.metadata.specs.declared.error.MetaError.{MetaError}
use Rattle.metadata.specs.Serving.{IsReplyTo, Serves, ServesAtMost}
use Rattle.metadata.specs.Service.{Served, Owes, ServesOne, ServesThese, first_failed_of, first_failure}

-- what is left of a connection that was served so
pub record Leaves (key : List ℕ) (served : Served) (old new : ListenerAt) (from upto : DirAt) : Type 0 where
  pub connection : Connection
  pub past : new.past ≡ old.past ++ record { connection = connection; faults = new.faults } ∷ []
  pub current : new.current ≡ None
  pub address : new.address ≡ old.address
  pub owes : Owes key connection served from upto

-- what serving leaves of a connection that was new
module _ (key input : List ℕ) (old taken served new : ListenerAt) (from upto : DirAt) (took : taken.current ≡ Some (fresh input)) (past : taken.past ≡ old.past) (at : taken.address ≡ old.address) (ends : HangsUp served new) where
  left : (read : List ℕ) (mid : ListenerAt) → HasRead taken read mid → mid.current ≡ Some (record { input = input; read = 0 + length read; written = [] })
  left read mid has = has.current ∙ ap (option_map (read_on (length read))) took

  whole_input : unread_of taken.current ≡ input
  whole_input = ap unread_of took

  -- it is the last that was hung up
  these : (text : List ℕ) (read : ℕ) (result : Served) → served.current ≡ Some (record { input = input; read = read; written = [] ++ text }) → served.past ≡ old.past → served.address ≡ old.address → Owes key (record { input = input; read = read; written = [] ++ text }) result from upto → Leaves key result old new from upto
  these text read result now same still owes =
      let c : Connection = record { input = input; read = read; written = [] ++ text } in
      let last : HungUp = record { connection = c; faults = new.faults } in
      record {
        connection = c;
        past = ends.past ∙ (ap (λ (o : Option Connection). past_with_current new.faults served.past o) now ∙ ap (λ (l : List HungUp). l ++ last ∷ []) same);
        current = ends.current;
        address = ends.address ∙ still;
        owes = owes;
      }

  written : (text read : List ℕ) (mid : ListenerAt) → HasRead taken read mid → WritesText mid text served → served.current ≡ Some (record { input = input; read = 0 + length read; written = [] ++ text })
  written text read mid has wrote = wrote.current ∙ ap (option_map (written_on text)) (left read mid has)

  leaves_whole : Serves key taken served from upto → Leaves key (Ok tt) old new from upto
  leaves_whole s =
      these s.bytes (0 + length s.taken) (Ok tt) (written s.bytes s.taken s.between s.read s.written) (s.written.past ∙ (s.read.past ∙ past)) (s.written.address ∙ (s.read.address ∙ at))
      (subst (λ (i : List ℕ). IsReplyTo i key s.bytes from upto) whole_input s.reply)

  pub leaves_part : (e : MetaError) → ServesAtMost key taken served from upto → Leaves key (Err e) old new from upto
  leaves_part e (inr (read, has)) =
      these [] (0 + length read) (Err e) (left read served has) (has.past ∙ past) (has.address ∙ at) (inl refl)
  leaves_part e (inl s) =
      these s.written.part (0 + length s.taken) (Err e) (written s.written.part s.taken s.between s.read s.written.written) (s.written.written.past ∙ (s.read.past ∙ past)) (s.written.written.address ∙ (s.read.address ∙ at))
      (inr (s.bytes, s.written.rest, subst (λ (i : List ℕ). IsReplyTo i key s.bytes from upto) whole_input s.reply, s.written.parted))

  pub leaves_so : (result : Served) → OnOk result (Serves key taken served from upto) → ServesAtMost key taken served from upto → Leaves key result old new from upto
  leaves_so (Ok done) whole part = leaves_whole whole
  leaves_so (Err e) whole part = leaves_part e part

-- some, and then one more
pub serves_then : (key : List ℕ) (results : List Served) (served : Served) (old mid new : ListenerAt) (a b c : DirAt) → ServesThese key results old mid a b → ServesOne key served mid new b c → ServesThese key (results ++ served ∷ []) old new a c
serves_then key [] served old mid new a b c those one =
    (new, c, subst (λ (l : ListenerAt). ServesOne key served l new a c) those.0 (subst (λ (d : DirAt). ServesOne key served mid new d c) those.1 one), (refl, refl))
serves_then key (first ∷ more) served old mid new a b c those one =
    (those.0, those.1, those.2, serves_then key more served those.0 mid new those.1 b c those.3 one)

-- no connection is current behind them
pub none_current : (key : List ℕ) (results : List Served) (old new : ListenerAt) (from upto : DirAt) → ServesThese key results old new from upto → old.current ≡ None → new.current ≡ None
none_current key [] old new from upto those none = ap (λ (l : ListenerAt). l.current) those.0 ∙ none
none_current key (served ∷ more) old new from upto those none = none_current key more those.0 new those.1 upto those.3 those.2.current

-- the first fault, with one more
pub fault_more : (results : List Served) (served : Served) → first_failure (results ++ served ∷ []) ≡ first_failed_of (first_failure results) served
fault_more [] (Ok done) = refl
fault_more [] (Err e) = refl
fault_more (Ok done ∷ rest) served = fault_more rest served
fault_more (Err e ∷ rest) served = refl

-- why the first of both failed
pub first_cause : (first served : Served) (e : MetaError) (a b c : ℕ) → (IsErrOf first e → Rose a b) → (IsErrOf served e → Rose b c) → a ≤ b → b ≤ c → IsErrOf (first_failed_of first served) e → Rose a c
first_cause (Ok done) served e a b c first later ab bc is = rose_later a b c ab (later is)
first_cause (Err f) served e a b c first later ab bc is = rose_still a b c (first is) bc
