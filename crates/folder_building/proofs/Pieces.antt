-- A file in pieces, and what the process knows of it.
use Rattle.std.proofs.Common.{◌≡◌, ℕ, Bool, true, not, ◌&&◌, bytes_eq, List, [], ◌∷◌, ◌++◌, refl, sym, ap, subst, ◌∙◌, append_assoc, append-nil}
use Rattle.std.specs.List.{list_all}
use Rattle.std.proofs.lemmas.List.Folds.{list_all-append}
use Rattle.plain_laws.proofs.Texts.{same_bytes}
use Rattle.dir_model.specs.declared.spot.Spot.{Spot}
use Rattle.dir_model.proofs.Lists.{and_both, any_push, any_last}
use Rattle.dir_rules.specs.declared.seen.Making.{Making}
use Rattle.dir_rules.specs.declared.standing.Standing.{Standing}
use Rattle.dir_rules.specs.Rules.{is_dir, has_file_among}
use Rattle.dir_trait.specs.DirCalls.{DirAt}
use Rattle.dir_trait.specs.Knowledge.{Knows}
use Rattle.folder_building.specs.Plans.{piece_at, pieces_at, is_entry_at}
use Rattle.folder_building.specs.Sources.{SourceAt, Same, ReadsOn}
use Rattle.folder_building.specs.Making.{with_making, with_piece, with_pieces, IsSpoilt, Appends, Spoils, AppendsUnder, SpoilsUnder}
use Rattle.folder_building.specs.Changes.{with_new, Makes, RefusesEntry, MakesFile, TriesCopiedFile}
use Rattle.folder_building.proofs.Steps.{site_kept}

pub pieces_more : (path : List ℕ) (ps qs : List (List ℕ)) (m : Making) → with_pieces path (ps ++ qs) m ≡ with_pieces path qs (with_pieces path ps m)
pieces_more path [] qs m = refl
pieces_more path (p ∷ ps) qs m = pieces_more path ps qs (with_piece path p m)

pub pieces_spot : (path : List ℕ) (ps : List (List ℕ)) (m : Making) → (with_pieces path ps m).spot ≡ m.spot
pieces_spot path [] m = refl
pieces_spot path (p ∷ ps) m = pieces_spot path ps (with_piece path p m)

pub pieces_clean : (path : List ℕ) (ps : List (List ℕ)) (m : Making) → (with_pieces path ps m).clean ≡ m.clean
pieces_clean path [] m = refl
pieces_clean path (p ∷ ps) m = pieces_clean path ps (with_piece path p m)

pub pieces_entries : (path : List ℕ) (ps : List (List ℕ)) (m : Making) → (with_pieces path ps m).entries ≡ m.entries ++ pieces_at path ps
pieces_entries path [] m = sym (append-nil m.entries)
pieces_entries path (p ∷ ps) m = pieces_entries path ps (with_piece path p m) ∙ append_assoc m.entries (piece_at path p ∷ []) (pieces_at path ps)

pub pieces_owed : (test : List ℕ → Bool) (path : List ℕ) → test path ≡ true → (ps : List (List ℕ)) (m : Making) → list_all test m.unsynced ≡ true → list_all test (with_pieces path ps m).unsynced ≡ true
pieces_owed test path at [] m h = h
pieces_owed test path at (p ∷ ps) m h = pieces_owed test path at ps (with_piece path p m) (and_both _ _ at h)

pub pieces_file : (path : List ℕ) (ps : List (List ℕ)) (m : Making) → has_file_among path m.entries ≡ true → has_file_among path (with_pieces path ps m).entries ≡ true
pieces_file path [] m h = h
pieces_file path (p ∷ ps) m h = pieces_file path ps (with_piece path p m) (any_push (λ e. not (is_dir e.node) && bytes_eq e.path path) m.entries (piece_at path p) h)

pub new_file : (path : List ℕ) (m : Making) → has_file_among path (with_new path true m).entries ≡ true
new_file path m = any_last (λ e. not (is_dir e.node) && bytes_eq e.path path) m.entries (piece_at path []) (same_bytes path)

pub all_at : (path : List ℕ) (ps : List (List ℕ)) → list_all (is_entry_at path) (pieces_at path ps) ≡ true
all_at path [] = refl
all_at path (p ∷ ps) = and_both _ _ (same_bytes path) (all_at path ps)

-- what was spoilt after pieces is spoilt after less
pub spoilt_pieces : (path : List ℕ) (ps : List (List ℕ)) (m : Making) {new : Making} → IsSpoilt path (with_pieces path ps m) new → IsSpoilt path m new
spoilt_pieces path ps m {new} h = record {
  spot = h.spot ∙ pieces_spot path ps m;
  part = pieces_at path ps ++ h.part;
  at = list_all-append (is_entry_at path) (pieces_at path ps) h.part ∙ and_both _ _ (all_at path ps) h.at;
  entries = h.entries ∙ ap (λ es. es ++ h.part) (pieces_entries path ps m) ∙ append_assoc m.entries (pieces_at path ps) h.part;
}

pub spoilt_none : (path : List ℕ) (m : Making) → IsSpoilt path m m
spoilt_none path m = record { spot = refl; part = []; at = refl; entries = sym (append-nil m.entries) }

pub spoilt_new : (path : List ℕ) (m : Making) {new : Making} → IsSpoilt path (with_new path true m) new → IsSpoilt path m new
spoilt_new path m {new} h = record {
  spot = h.spot;
  part = piece_at path [] ∷ h.part;
  at = and_both _ _ (same_bytes path) h.at;
  entries = h.entries ∙ append_assoc m.entries (piece_at path [] ∷ []) h.part;
}

-- the locks of a source after a read are those before
pub may_same : {old new : SourceAt} (st : Standing) → Same old new → old.may st ≡ true → new.may st ≡ true
may_same st same h = ap (λ (f : Standing → Bool). f st) same.may ∙ h

module _ (spot : Spot) (path : List ℕ) where
  pub appends_none : (d : DirAt) → Appends spot path [] d d
  appends_none d s m k site file = k

  pub appends_more : (a b c : DirAt) (ps qs : List (List ℕ)) → Appends spot path ps a b → Appends spot path qs b c → Appends spot path (ps ++ qs) a c
  appends_more a b c ps qs f g s m k site file =
      subst (λ (x : Making). Knows c (with_making s x)) (sym (pieces_more path ps qs m))
      (g s (with_pieces path ps m) (f s m k site file) (site_kept (pieces_spot path ps m) site) (pieces_file path ps m file))

  pub appends_spoilt : (a b c : DirAt) (ps : List (List ℕ)) → Appends spot path ps a b → Spoils spot path b c → Spoils spot path a c
  appends_spoilt a b c ps f g s m k site file =
      let x = g s (with_pieces path ps m) (f s m k site file) (site_kept (pieces_spot path ps m) site) (pieces_file path ps m file) in
      record { making = x.making; is = spoilt_pieces path ps m x.is; knows = x.knows }

  -- under the locks of a source
  module _ (source : SourceAt) where
    pub under_none : (d : DirAt) → AppendsUnder source spot path [] d d
    under_none d s m may k site file = k

    pub under_reads : (a b : DirAt) → ReadsOn source a b → AppendsUnder source spot path [] a b
    under_reads a b r s m may k site file = r (with_making s m) may k

    pub under_piece : (a b c : DirAt) (ps : List (List ℕ)) → ReadsOn source a b → Appends spot path ps b c → AppendsUnder source spot path ps a c
    under_piece a b c ps r f s m may k site file = f s m (r (with_making s m) may k) site file

    pub under_spoilt : (a b c : DirAt) → ReadsOn source a b → Spoils spot path b c → SpoilsUnder source spot path a c
    under_spoilt a b c r f s m may k site file = f s m (r (with_making s m) may k) site file

    pub reads_spoil : (a b : DirAt) → ReadsOn source a b → SpoilsUnder source spot path a b
    reads_spoil a b r s m may k site file = record { making = m; is = spoilt_none path m; knows = r (with_making s m) may k }

    pub under_more : (next : SourceAt) (a b c : DirAt) (ps qs : List (List ℕ)) → Same source next → AppendsUnder source spot path ps a b → AppendsUnder next spot path qs b c → AppendsUnder source spot path (ps ++ qs) a c
    under_more next a b c ps qs same f g s m may k site file =
        subst (λ (x : Making). Knows c (with_making s x)) (sym (pieces_more path ps qs m))
        (g s (with_pieces path ps m) (may_same s.standing same may) (f s m may k site file) (site_kept (pieces_spot path ps m) site) (pieces_file path ps m file))

    pub under_spoils : (next : SourceAt) (a b c : DirAt) (ps : List (List ℕ)) → Same source next → AppendsUnder source spot path ps a b → SpoilsUnder next spot path b c → SpoilsUnder source spot path a c
    under_spoils next a b c ps same f g s m may k site file =
        let x = g s (with_pieces path ps m) (may_same s.standing same may) (f s m may k site file) (site_kept (pieces_spot path ps m) site) (pieces_file path ps m file) in
        record { making = x.making; is = spoilt_pieces path ps m x.is; knows = x.knows }

    pub under_given_up : (a b : DirAt) (ps : List (List ℕ)) → AppendsUnder source spot path ps a b → SpoilsUnder source spot path a b
    under_given_up a b ps f s m may k site file = record { making = with_pieces path ps m; is = spoilt_pieces path ps m (spoilt_none path (with_pieces path ps m)); knows = f s m may k site file }

    -- a file that was made and then filled
    pub file_refused : (a b : DirAt) → RefusesEntry spot path true a b → TriesCopiedFile source spot path a b
    file_refused a b f s m may k site new = f s m k site new

    pub file_filled : (a b c : DirAt) (ps : List (List ℕ)) → Makes spot path true a b → AppendsUnder source spot path ps b c → MakesFile source spot path ps a c
    file_filled a b c ps f g s m may k site new = g s (with_new path true m) may (f s m k site new) (site_kept refl site) (new_file path m)

    pub file_spoilt : (a b c : DirAt) → Makes spot path true a b → SpoilsUnder source spot path b c → TriesCopiedFile source spot path a c
    file_spoilt a b c f g s m may k site new =
        let x = g s (with_new path true m) may (f s m k site new) (site_kept refl site) (new_file path m) in
        record { making = x.making; is = spoilt_new path m x.is; knows = x.knows }

  pub given_under : (source : SourceAt) (a b : DirAt) (ps : List (List ℕ)) → Appends spot path ps a b → AppendsUnder source spot path ps a b
  given_under source a b ps f s m may k site file = f s m k site file

  pub spoils_under : (source : SourceAt) (a b : DirAt) → Spoils spot path a b → SpoilsUnder source spot path a b
  spoils_under source a b f s m may k site file = f s m k site file
