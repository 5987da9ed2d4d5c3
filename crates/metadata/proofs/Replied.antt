-- What was served, from what was read, looked for and written.
use Rattle.std.proofs.Common.{◌≡◌, inl, inr, ℕ, Bool, true, List, subst}
use Rattle.dir_trait.specs.DirCalls.{DirAt}
use Rattle.listener.specs.Connections.{ListenerAt, WritesText, WritesPartToPeer}
use Rattle.metadata_request.specs.Inputs.{unread_of, OnlyReadsInput}
use Rattle.metadata.specs.Serving.{IsReplyTo, Serves, ServesAtMost}

module _ {observed : Bool} (t : observed ≡ true) (key : List ℕ) (old mid new : ListenerAt) (from upto : DirAt) (bytes text : List ℕ) (same : text ≡ bytes) (reply : IsReplyTo (unread_of old.current) key bytes from upto) (read : OnlyReadsInput observed old mid) where
  pub served : WritesText mid text new → Serves key old new from upto
  served written = let r = read t in record { bytes = bytes; reply = reply; taken = r.0; between = mid; read = r.1; written = subst (λ (x : List ℕ). WritesText mid x new) same written }

  pub served_part : WritesPartToPeer mid text new → ServesAtMost key old new from upto
  served_part written = let r = read t in inl (record { bytes = bytes; reply = reply; taken = r.0; between = mid; read = r.1; written = subst (λ (x : List ℕ). WritesPartToPeer mid x new) same written })

pub served_nothing : {observed : Bool} (t : observed ≡ true) (key : List ℕ) (old new : ListenerAt) (from upto : DirAt) → OnlyReadsInput observed old new → ServesAtMost key old new from upto
served_nothing t key old new from upto read = inr (read t)
