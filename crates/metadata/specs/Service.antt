-- The service: so many connections, one after the other.
use Rattle.std.specs.Prelude.{◌≡◌, ◌⊎◌, ◌<◌, ◌≤◌, ℕ, true, List, [], ◌∷◌, ◌++◌, length, None, Result, Ok, Err, IsErrOf}
use Rattle.dir_model.specs.Causes.{Rose}
use Rattle.dir_trait.specs.DirCalls.{DirAt}
use Rattle.listener.specs.Connections.{Connection, ListenerAt, SameLinks, Binds}
use Rattle.pod_report.specs.Requests.{OnlyAsksFor}
use Rattle.metadata.specs.declared.error.MetaError.{MetaError}
use Rattle.metadata.specs.declared.error.MetaError.TheVariants.{LinkFault, DirFault, NoMemory}
use Rattle.metadata.specs.Looks.{looks_in_run}
use Rattle.metadata.specs.Serving.{IsReplyTo}

-- how one connection was served
abbrev pub Served : Type 0
Served = Result (Unit {0}) MetaError

-- what was written to a connection is the reply to its input; where serving it failed, a beginning of such a reply, or nothing
abbrev pub Owes : List ℕ → Connection → Served → DirAt → DirAt → Type 0
Owes key c (Ok done) from upto = IsReplyTo c.input key c.written from upto
Owes key c (Err error) from upto = (c.written ≡ []) ⊎ ((bytes : List ℕ) × (rest : List ℕ) × IsReplyTo c.input key bytes from upto × (bytes ≡ c.written ++ rest))

-- one connection was taken, served so, and hung up. It failed by the listener where the listener's count of faults rose
-- until then, and only there, and by the directory only where the directory's did
pub record ServesOne (key : List ℕ) (served : Served) (old new : ListenerAt) (from upto : DirAt) : Type 0 where
  pub connection : Connection
  pub past : new.past ≡ old.past ++ record { connection = connection; faults = new.faults } ∷ []
  pub current : new.current ≡ None
  pub address : new.address ≡ old.address
  pub asks : OnlyAsksFor true looks_in_run from upto
  pub owes : Owes key connection served from upto
  pub link_cause : IsErrOf served LinkFault → Rose old.faults new.faults
  pub link_told : (IsErrOf served LinkFault → ⊥) → new.faults ≡ old.faults
  pub dir_cause : IsErrOf served DirFault → Rose from.faults upto.faults

-- these were served, one after the other: each begins where the one before it ended
abbrev pub ServesThese : List ℕ → List Served → ListenerAt → ListenerAt → DirAt → DirAt → Type 0
ServesThese key [] old new from upto = (new ≡ old) × (upto ≡ from)
ServesThese key (served ∷ more) old new from upto =
    (mid : ListenerAt) × (moment : DirAt) × ServesOne key served old mid from moment × ServesThese key more mid new moment upto

-- the first that failed
abbrev pub first_failed_of : Served → Served → Served
first_failed_of (Ok done) later = later
first_failed_of (Err error) later = Err error

abbrev pub first_failure : List Served → Served
first_failure [] = Ok tt
first_failure (served ∷ more) = first_failed_of served (first_failure more)

-- the listener failed, or memory ran out
abbrev pub IsRefusedLink : Served → Type 0
IsRefusedLink (Err LinkFault) = Unit {0}
IsRefusedLink (Err NoMemory) = Unit {0}
IsRefusedLink _ = ⊥

-- the listener refused, and but for its count of faults it is as it was
pub record ListenerRefuses (result : Served) (old new : ListenerAt) : Type 0 where
  pub refused : IsRefusedLink result
  pub cause : IsErrOf result LinkFault → Rose old.faults new.faults
  pub same : SameLinks old new

-- so many were served, and the first that failed is the answer; or fewer were, and the next was refused
abbrev pub EndsWith : ℕ → List Served → Served → ListenerAt → ListenerAt → Type 0
EndsWith count results result last new =
    ((length results ≡ count) × (result ≡ first_failure results) × (new ≡ last)) ⊎ ((length results < count) × ListenerRefuses result last new)

-- so many, or fewer
pub record ServesUpTo (key : List ℕ) (count : ℕ) (result : Served) (old new : ListenerAt) (from upto : DirAt) : Type 0 where
  pub results : List Served
  pub last : ListenerAt
  pub these : ServesThese key results old last from upto
  pub ends : EndsWith count results result last new

-- it listens at the address, and then serves so many
pub record ListensAndServes (key address : List ℕ) (count : ℕ) (result : Served) (old new : ListenerAt) (from upto : DirAt) : Type 0 where
  pub bound : ListenerAt
  pub binds : Binds old address (Ok tt) bound
  pub kept : old.faults ≤ bound.faults
  pub serves : ServesUpTo key count result bound new from upto

-- or the address was refused, and the directory wasn't asked
abbrev pub ServesAt : List ℕ → List ℕ → ℕ → Served → ListenerAt → ListenerAt → DirAt → DirAt → Type 0
ServesAt key address count result old new from upto = ListensAndServes key address count result old new from upto ⊎ (ListenerRefuses result old new × (upto ≡ from))

-- one was taken, served so, and hung up; or none was, and the directory wasn't asked
abbrev pub ServesNext : List ℕ → Result Served MetaError → ListenerAt → ListenerAt → DirAt → DirAt → Type 0
ServesNext key (Ok served) old new from upto = ServesOne key served old new from upto
ServesNext key (Err error) old new from upto = ListenerRefuses (Err error) old new × (upto ≡ from)
