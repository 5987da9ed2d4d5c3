-- A file copied piece by piece.
use Rattle.std.proofs.Common.{◌≡◌, ◌≤◌, ◌<◌, ◌==◌, ◌↔◌, ℕ, ◌+◌, ◌-◌, Bool, true, false, IsTrue, Option, Some, None, take, List, [], ◌∷◌, ◌++◌, length, Result, Ok, Err, IfOk, refl, sym, ap, subst, ◌∙◌, append_assoc, append-nil, arith}
use Rattle.std.specs.List.{concat}
use Rattle.std.proofs.lemmas.List.Folds.{concat-append}
use Rattle.std.proofs.lemmas.List.{length-append}
use Rattle.std.proofs.Math.Seq.{take-length, take-add}
use Rattle.std.proofs.lemmas.Bool.Decides.{nat_tests}
use Rattle.sha2.specs.Sha512.{sha512}
use Rattle.dir_model.specs.declared.spot.Spot.{Spot}
use Rattle.dir_model.specs.declared.request.Request.{Request}
use Rattle.dir_trait.specs.DirCalls.{DirAt}
use Rattle.dir_trait.specs.Effects.{OnlyAsks}
use Rattle.tree_digest.specs.declared.file_check.FileCheck.{FileCheck}
use Rattle.tree_digest.specs.FileChecks.{HasTaken}
use Rattle.folder_building.specs.Work.{EndsWithStrayBuilding, builds_at, either}
use Rattle.folder_building.specs.Sources.{SourceAt, Same, ReadsOn, ReadsOrigin, IsLonger, IsUnlike, UnlikeContent, IsLike, LikeContent}
use Rattle.folder_building.specs.declared.plan.Origin.{Origin}
use Rattle.folder_building.specs.declared.plan.Content.{Content}
use Rattle.folder_building.specs.declared.plan.Content.TheVariants.{Directory, Given, Copied}
use Rattle.folder_building.specs.Making.{Appends, AppendsInPieces, WritesBut, CopiesOn, Copies, Spoils}
use Rattle.folder_building.specs.Changes.{Makes, no_source, MakesGivenFile, MakesCopiedFile, TriesFile}
use Rattle.folder_building.proofs.Working.{worked_wider, in_first, in_second}
use Rattle.folder_building.proofs.Strays.{stray_wider}
use Rattle.folder_building.proofs.Pieces.{appends_none, appends_more, under_none, under_reads, under_piece, under_more, file_filled, file_spoilt, given_under, spoils_under}

pub same_none : {source : SourceAt} → Same source source
same_none = record { faults = omega arith; asks = refl; may = refl; told = refl; file = λ t. refl; reference = refl }

pub same_more : {a b c : SourceAt} → Same a b → Same b c → Same a c
same_more ab bc = record { faults = omega (arith, ab.faults, bc.faults); asks = bc.asks ∙ ab.asks; may = bc.may ∙ ab.may; told = bc.told ∙ ab.told; file = λ t. bc.file (ab.told ∙ t) ∙ ab.file t; reference = bc.reference ∙ ab.reference }

-- a source asks after a read for what it asked for before
pub worked_same : {observed : Bool} (spot : Spot) {source next : SourceAt} {a b : DirAt} → Same source next → OnlyAsks observed (either (builds_at spot) next.asks) a b → OnlyAsks observed (either (builds_at spot) source.asks) a b
worked_same {observed} spot {source} {next} {a} {b} same w = subst (λ (asks : Request → Bool). OnlyAsks observed (either (builds_at spot) asks) a b) same.asks w

pub stray_same : (spot : Spot) {source next : SourceAt} (a b : DirAt) → Same source next → EndsWithStrayBuilding (either (builds_at spot) next.asks) a b → EndsWithStrayBuilding (either (builds_at spot) source.asks) a b
stray_same spot {source} {next} a b same w = subst (λ (asks : Request → Bool). EndsWithStrayBuilding (either (builds_at spot) asks) a b) same.asks w

pub worked_here : {observed : Bool} (spot : Spot) (source : SourceAt) {a b : DirAt} → OnlyAsks observed (builds_at spot) a b → OnlyAsks observed (either (builds_at spot) source.asks) a b
worked_here {observed} spot source w = worked_wider (in_first (builds_at spot) source.asks) w

pub worked_there : {observed : Bool} (spot : Spot) (source : SourceAt) {a b : DirAt} → OnlyAsks observed source.asks a b → OnlyAsks observed (either (builds_at spot) source.asks) a b
worked_there {observed} spot source w = worked_wider (in_second (builds_at spot) source.asks) w

pub stray_here : (spot : Spot) (source : SourceAt) (a b : DirAt) → EndsWithStrayBuilding (builds_at spot) a b → EndsWithStrayBuilding (either (builds_at spot) source.asks) a b
stray_here spot source a b w = stray_wider (builds_at spot) (either (builds_at spot) source.asks) a b (in_first (builds_at spot) source.asks) w

-- given bytes
pub writes_none : (observed : Bool) (spot : Spot) (path bytes : List ℕ) (d : DirAt) → WritesBut observed spot path bytes bytes d d
writes_none observed spot path bytes d = record { begun = []; whole = refl; writes = record { pieces = []; whole = refl; appends = λ t. appends_none spot path d } }

pub writes_more : {observed : Bool} {spot : Spot} {path bytes rest : List ℕ} {a b : DirAt} (piece left : List ℕ) (c : DirAt) → rest ≡ piece ++ left → WritesBut observed spot path bytes rest a b → (observed ≡ true → Appends spot path (piece ∷ []) b c) → WritesBut observed spot path bytes left a c
writes_more {observed} {spot} {path} {bytes} {rest} {a} {b} piece left c cut w f = record {
  begun = w.begun ++ piece;
  whole = append_assoc w.begun piece left ∙ ap (λ xs. w.begun ++ xs) (sym cut) ∙ w.whole;
  writes = record {
    pieces = w.writes.pieces ++ piece ∷ [];
    whole = concat-append w.writes.pieces (piece ∷ []) ∙ ap (λ xs. concat w.writes.pieces ++ xs) (append-nil piece) ∙ ap (λ xs. xs ++ piece) w.writes.whole;
    appends = λ t. appends_more spot path a b c w.writes.pieces (piece ∷ []) (w.writes.appends t) (f t);
  };
}

pub writes_all : {observed : Bool} {spot : Spot} {path bytes rest : List ℕ} {a b : DirAt} → rest ≡ [] → WritesBut observed spot path bytes rest a b → AppendsInPieces observed spot path bytes a b
writes_all {observed} {spot} {path} {bytes} {rest} {a} {b} none w = record {
  pieces = w.writes.pieces;
  whole = w.writes.whole ∙ sym (append-nil w.begun) ∙ ap (λ xs. w.begun ++ xs) (sym none) ∙ w.whole;
  appends = w.writes.appends;
}

-- bytes of a source
pub copies_none : {observed : Bool} {source : SourceAt} {spot : Spot} {path : List ℕ} {check : FileCheck} {d : DirAt} → CopiesOn observed source spot path 0 check check d d
copies_none {observed} {source} {spot} {path} {check} {d} = record {
  pieces = [];
  counted = refl;
  taken = λ size sha message h. subst (λ (xs : List ℕ). HasTaken check size sha xs) (sym (append-nil message)) h;
  appends = λ t. under_none spot path source d;
}

pub copies_more : {observed : Bool} {source next : SourceAt} {spot : Spot} {path : List ℕ} {n k : ℕ} {x y z : FileCheck} {a b c : DirAt} → Same source next → CopiesOn observed source spot path n x y a b → CopiesOn observed next spot path k y z b c → CopiesOn observed source spot path (n + k) x z a c
copies_more {observed} {source} {next} {spot} {path} {n} {k} {x} {y} {z} {a} {b} {c} same f g = record {
  pieces = f.pieces ++ g.pieces;
  counted = ap length (concat-append f.pieces g.pieces) ∙ length-append (concat f.pieces) (concat g.pieces) ∙ ap (λ m. m + length (concat g.pieces)) f.counted ∙ ap (λ m. n + m) g.counted;
  taken = λ size sha message h. subst (λ (xs : List ℕ). HasTaken z size sha xs) (append_assoc message (concat f.pieces) (concat g.pieces) ∙ ap (λ xs. message ++ xs) (sym (concat-append f.pieces g.pieces))) (g.taken size sha (message ++ concat f.pieces) (f.taken size sha message h));
  appends = λ t. under_more spot path source next a b c f.pieces g.pieces same (f.appends t) (g.appends t);
}

pub copies_piece : {observed : Bool} {source : SourceAt} {spot : Spot} {path : List ℕ} {x y : FileCheck} {a b c : DirAt} (n : ℕ) (piece : List ℕ) → length piece ≡ n → ((size : ℕ) (sha message : List ℕ) → HasTaken x size sha message → HasTaken y size sha (message ++ piece)) → (observed ≡ true → ReadsOn source a b) → (observed ≡ true → Appends spot path (piece ∷ []) b c) → CopiesOn observed source spot path n x y a c
copies_piece {observed} {source} {spot} {path} {x} {y} {a} {b} {c} n piece long taken reads f = record {
  pieces = piece ∷ [];
  counted = ap length (append-nil piece) ∙ long;
  taken = λ size sha message h. subst (λ (xs : List ℕ). HasTaken y size sha (message ++ xs)) (sym (append-nil piece)) (taken size sha message h);
  appends = λ t. under_piece spot path source a b c (piece ∷ []) (reads t) (f t);
}

-- the file has ended
pub copies_end : {observed : Bool} {source : SourceAt} {spot : Spot} {path : List ℕ} {x y : FileCheck} {a b : DirAt} (piece : List ℕ) → piece ≡ [] → ((size : ℕ) (sha message : List ℕ) → HasTaken x size sha message → HasTaken y size sha (message ++ piece)) → (observed ≡ true → ReadsOn source a b) → CopiesOn observed source spot path 0 x y a b
copies_end {observed} {source} {spot} {path} {x} {y} {a} {b} piece none taken reads = record {
  pieces = [];
  counted = refl;
  taken = λ size sha message h. subst (λ (xs : List ℕ). HasTaken y size sha (message ++ xs)) none (taken size sha message h);
  appends = λ t. under_reads spot path source a b (reads t);
}

pub copies_all : {observed : Bool} {source : SourceAt} {spot : Spot} {path : List ℕ} {n : ℕ} {x y : FileCheck} {a b : DirAt} (size : ℕ) (sha : List ℕ) (f : CopiesOn observed source spot path n x y a b) → length (concat f.pieces) ≡ size → sha512 (concat f.pieces) ≡ sha → Copies observed source spot path size sha a b
copies_all size sha f sized hashed = record { pieces = f.pieces; sized = sized; hashed = hashed; appends = f.appends }

pub ok_any : {T E : Type 0} {P : Type 0} (r : Result T E) → P → IfOk r (λ x. P)
ok_any (Ok x) h = h
ok_any (Err e) h = tt

-- a file that was made and filled
pub gives_file : {observed : Bool} {spot : Spot} {path bytes : List ℕ} {b c : DirAt} (a : DirAt) → (observed ≡ true → Makes spot path true a b) → AppendsInPieces observed spot path bytes b c → MakesGivenFile observed spot path bytes a c
gives_file {observed} {spot} {path} {bytes} {b} {c} a f w = record {
  pieces = w.pieces;
  whole = w.whole;
  makes = λ t. file_filled spot path no_source a b c w.pieces (f t) (given_under spot path no_source b c w.pieces (w.appends t));
}

pub gives_none : (spot : Spot) (path : List ℕ) (a b c : DirAt) → Makes spot path true a b → Spoils spot path b c → TriesFile spot path a c
gives_none spot path a b c f g = file_spoilt spot path no_source a b c f (spoils_under spot path no_source b c g)

pub takes_file : {observed : Bool} {source : SourceAt} {spot : Spot} {path : List ℕ} {size : ℕ} {sha : List ℕ} {b c : DirAt} (a : DirAt) → (observed ≡ true → Makes spot path true a b) → Copies observed source spot path size sha b c → MakesCopiedFile observed source spot path size sha a c
takes_file {observed} {source} {spot} {path} {size} {sha} {b} {c} a f w = record {
  pieces = w.pieces;
  sized = w.sized;
  hashed = w.hashed;
  makes = λ t. file_filled spot path source a b c w.pieces (f t) (w.appends t);
}

-- what was read so far, if there is such a file: where the reading has ended, all of it
pub record IsFront (more : Bool) (check : FileCheck) (size : ℕ) (sha : List ℕ) (at : ℕ) (bytes : List ℕ) : Type 0 where
  pub within : at ≤ length bytes
  pub taken : HasTaken check size sha (take at bytes)
  pub ended : more ≡ false → at ≡ length bytes

abbrev pub Front : SourceAt → Origin → Bool → FileCheck → ℕ → List ℕ → ℕ → Type 0
Front source origin more check size sha at = source.told ≡ true → (bytes : List ℕ) → source.file origin ≡ Some bytes → IsFront more check size sha at bytes

pub front_none : (source : SourceAt) (origin : Origin) (check : FileCheck) (size : ℕ) (sha : List ℕ) → HasTaken check size sha [] → Front source origin true check size sha 0
front_none source origin check size sha h t bytes is = record { within = omega arith; taken = h; ended = λ e. cc }

told_same : {source next : SourceAt} → Same source next → source.told ≡ true → next.told ≡ true
told_same same t = same.told ∙ t

file_same : {source next : SourceAt} {origin : Origin} {bytes : List ℕ} → Same source next → source.told ≡ true → source.file origin ≡ Some bytes → next.file origin ≡ Some bytes
file_same {source} {next} {origin} same t is = ap (λ (f : Origin → Option (List ℕ)). f origin) (same.file t) ∙ is

pub front_more : (source next : SourceAt) (origin : Origin) (more : Bool) (x y : FileCheck) (size : ℕ) (sha : List ℕ) (at n room : ℕ) (bs : List ℕ) (again : Bool) → Same source next → Front source origin more x size sha at → ReadsOrigin next origin at room n bs → ((k : ℕ) (s message : List ℕ) → HasTaken x k s message → HasTaken y k s (message ++ take n bs)) → (again ≡ false → n < room) → Front source origin again y size sha (at + n)
front_more source next origin more x y size sha at n room bs again same front reads taken short t bytes is =
    let f = front t bytes is in
    let r = reads (told_same same t) bytes (file_same same t is) in
    record {
      within = omega (arith, f.within, r.count);
      taken = subst (λ (xs : List ℕ). HasTaken y size sha xs) (ap (λ p. take at bytes ++ p) r.piece ∙ sym (take-add at n bytes)) (taken size sha (take at bytes) f.taken);
      ended = λ e. omega (arith, f.within, r.count, short e);
    }

-- a missing file isn't the one
pub missing_longer : (source : SourceAt) (origin : Origin) (size : ℕ) → (source.told ≡ true → source.file origin ≡ None) → IsLonger source origin size
missing_longer source origin size none t bytes is within = let clash : Some bytes ≡ None = sym is ∙ none t in cc

-- nor is one that is longer than it may be
pub longer_unlike : (source next : SourceAt) (origin : Origin) (size at : ℕ) (sha : List ℕ) → Same source next → at ≤ size → IsLonger next origin (at + (size - at)) → IsUnlike source origin size sha
longer_unlike source next origin size at sha same within longer t bytes is long hashed = longer (told_same same t) bytes (file_same same t is) (omega (arith, within, long))

-- nor one whose bytes were all taken, and don't match
pub ended_unlike : (source : SourceAt) (origin : Origin) (more : Bool) (check : FileCheck) (size : ℕ) (sha : List ℕ) (at : ℕ) (matches : Bool) → more ≡ false → Front source origin more check size sha at → ((k : ℕ) (s message : List ℕ) → HasTaken check k s message → (IsTrue matches ↔ ((length message ≡ k) × (sha512 message ≡ s)))) → matches ≡ false → IsUnlike source origin size sha
ended_unlike source origin more check size sha at matches over front says never t bytes is long hashed =
    let f = front t bytes is in
    let whole : HasTaken check size sha bytes = subst (λ (xs : List ℕ). HasTaken check size sha xs) (ap (λ n. take n bytes) (f.ended over) ∙ take-length bytes) f.taken in
    let found : matches ≡ true = (says size sha bytes whole).1 (long, hashed) in
    let clash : true ≡ false = sym found ∙ never in
    cc

-- but one whose bytes were all taken, and match, is
pub ended_like : (source : SourceAt) (origin : Origin) (more : Bool) (check : FileCheck) (size : ℕ) (sha : List ℕ) (at : ℕ) (matches : Bool) → more ≡ false → Front source origin more check size sha at → ((k : ℕ) (s message : List ℕ) → HasTaken check k s message → (IsTrue matches ↔ ((length message ≡ k) × (sha512 message ≡ s)))) → IsTrue matches → IsLike source origin size sha
ended_like source origin more check size sha at matches over front says fits t bytes is =
    let f = front t bytes is in
    (says size sha bytes (subst (λ (xs : List ℕ). HasTaken check size sha xs) (ap (λ n. take n bytes) (f.ended over) ∙ take-length bytes) f.taken)).0 fits

pub like_same : (source next : SourceAt) (content : Content) → Same source next → LikeContent next content → LikeContent source content
like_same source next Directory same h = h
like_same source next (Given bytes) same h = h
like_same source next (Copied origin size sha) same h = λ t bytes is. h (told_same same t) bytes (file_same same t is)

pub unlike_same : (source next : SourceAt) (origin : Origin) (size : ℕ) (sha : List ℕ) → Same source next → IsUnlike next origin size sha → IsUnlike source origin size sha
unlike_same source next origin size sha same unlike t bytes is long hashed = unlike (told_same same t) bytes (file_same same t is) long hashed

pub content_same : (source next : SourceAt) (content : Content) → Same source next → UnlikeContent next content → UnlikeContent source content
content_same source next Directory same h = h
content_same source next (Given bytes) same h = h
content_same source next (Copied origin size sha) same h = unlike_same source next origin size sha same h

-- fewer bytes than a whole piece
pub short : (n size : ℕ) → n ≤ size → size ≡ 65536 → (n == 65536) ≡ false → n < size
short n size within is other = grind (arith, nat_tests)
