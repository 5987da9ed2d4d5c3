-- Calls that were cut short, before others and behind others.
use Rattle.std.proofs.Common.{List, [], ◌∷◌, ◌++◌, refl, sym, ap, ◌∙◌, append_assoc, append-nil}
use Rattle.spawner.specs.declared.call.SpawnCall.{SpawnCall}
use Rattle.spawner.specs.declared.call.SpawnError.{SpawnError}
use Rattle.spawner.specs.declared.call.SpawnReply.TheVariants.{Refused}
use Rattle.spawner.specs.Calls.{call}
use Rattle.stage1.specs.Cutting.{IsRefusedNext, IsCutOff}

pub cut_none : (whole : List SpawnCall) → IsCutOff whole []
cut_none whole = record { done = []; rest = whole; last = []; parted = refl; are = refl; next = tt }

-- nothing is left
pub cut_whole : (whole : List SpawnCall) → IsCutOff whole whole
cut_whole whole = record { done = whole; rest = []; last = []; parted = sym (append-nil whole); are = sym (append-nil whole); next = tt }

-- behind what was done
pub cut_behind : (front whole calls : List SpawnCall) → IsCutOff whole calls → IsCutOff (front ++ whole) (front ++ calls)
cut_behind front whole calls c = record {
  done = front ++ c.done;
  rest = c.rest;
  last = c.last;
  parted = ap (λ (l : List SpawnCall). front ++ l) c.parted ∙ sym (append_assoc front c.done c.rest);
  are = ap (λ (l : List SpawnCall). front ++ l) c.are ∙ sym (append_assoc front c.done c.last);
  next = c.next;
}

next_before : (rest last later : List SpawnCall) → IsRefusedNext rest last → IsRefusedNext (rest ++ later) last
next_before rest [] later n = tt
next_before [] (l ∷ []) later n = absurd n
next_before (c ∷ rest) (l ∷ []) later n = n
next_before [] (l ∷ m ∷ ms) later n = absurd n
next_before (c ∷ rest) (l ∷ m ∷ ms) later n = absurd n

-- before what was to come
pub cut_before : (whole later calls : List SpawnCall) → IsCutOff whole calls → IsCutOff (whole ++ later) calls
cut_before whole later calls c = record {
  done = c.done;
  rest = c.rest ++ later;
  last = c.last;
  parted = ap (λ (l : List SpawnCall). l ++ later) c.parted ∙ append_assoc c.done c.rest later;
  are = c.are;
  next = next_before c.rest c.last later c.next;
}

-- the next call was refused
pub cut_refused : (done : List SpawnCall) (next : SpawnCall) (rest : List SpawnCall) (error : SpawnError) → IsCutOff (done ++ next ∷ rest) (done ++ call next.request (Refused error) ∷ [])
cut_refused done next rest error = record { done = done; rest = next ∷ rest; last = call next.request (Refused error) ∷ []; parted = refl; are = refl; next = record { error = error; refused = refl } }
