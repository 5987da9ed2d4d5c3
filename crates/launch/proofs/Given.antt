-- Variables one after the other: which names came, and their last values.
use Rattle.std.proofs.Common.{arith, ◌≡◌, ◌<◌, ℕ, zero, suc, Bool, true, false, not, ◌||◌, ◌==◌, bytes_eq, cond, Option, Some, None, is_some, unwrap_or, List, [], ◌∷◌, ◌++◌, map, filter, length, get_or, append-nil, refl, sym, ap, ◌∙◌}
use Rattle.app_section.specs.declared.env_var.EnvVar.{EnvVar}
use Rattle.dir_model.proofs.Lists.{filter_push, filter_past, map_push}
use Rattle.std.proofs.lemmas.Bool.Decides.{nat_tests}
use Rattle.plain_laws.proofs.Texts.{same_bytes}
use Rattle.plain_laws.proofs.Lists.{any_added}
use Rattle.launch.specs.Environment.{is_variable_named, has_variable, last_value, first_of_each_name, with_last, is_reserved_variable, path_name, default_path, search_path, variable, variable_of, variable_if_unreserved}

pub last_value-push : (name : List ℕ) (vs : List EnvVar) (v : EnvVar) → last_value name (vs ++ v ∷ []) ≡ cond (is_variable_named v name) (Some v.value) (last_value name vs)
last_value-push name [] v = refl
last_value-push name (x ∷ vs) v =
    rw (any_added (λ w. is_variable_named w name) vs v, last_value-push name vs v) (by (is_variable_named v name) (has_variable name vs))
  where
    first : Option (List ℕ)
    first = cond (is_variable_named x name) (Some x.value) None

    by : (b h : Bool) → cond (h || b) (cond b (Some v.value) (last_value name vs)) first ≡ cond b (Some v.value) (cond h (last_value name vs) first)
    by true true = refl
    by true false = refl
    by false true = refl
    by false false = refl

-- the search path after one variable more
pub search_path-push : (vs : List EnvVar) (v : EnvVar) → search_path (vs ++ v ∷ []) ≡ cond (is_variable_named v path_name) v.value (search_path vs)
search_path-push vs v = ap (λ o. unwrap_or o default_path) (last_value-push path_name vs v) ∙ by (is_variable_named v path_name)
  where
    by : (b : Bool) → unwrap_or (cond b (Some v.value) (last_value path_name vs)) default_path ≡ cond b v.value (search_path vs)
    by true = refl
    by false = refl

-- what some first variables give, where these are all
abbrev pub given_of : List EnvVar → List EnvVar → List EnvVar
given_of vs front = filter (λ v. not (is_reserved_variable v.name)) (map (with_last vs) (first_of_each_name front))

number_turn : (a b : ℕ) → (a == b) ≡ (b == a)
number_turn a b = grind (arith, nat_tests)

bytes_turn : (xs ys : List ℕ) → bytes_eq xs ys ≡ bytes_eq ys xs
bytes_turn [] [] = refl
bytes_turn [] (y ∷ ys) = refl
bytes_turn (x ∷ xs) [] = refl
bytes_turn (x ∷ xs) (y ∷ ys) = rw (number_turn x y, bytes_turn xs ys) refl

-- the same name
named_turn : (v x : EnvVar) → is_variable_named v x.name ≡ is_variable_named x v.name
named_turn v x = bytes_turn v.name x.name

-- a variable more is a first where its name didn't come
firsts-push : (front : List EnvVar) (v : EnvVar) → first_of_each_name (front ++ v ∷ []) ≡ cond (has_variable v.name front) (first_of_each_name front) (first_of_each_name front ++ v ∷ [])
firsts-push [] v = refl
firsts-push (x ∷ front) v =
    ap (λ l. x ∷ filter (λ w. not (is_variable_named w x.name)) l) (firsts-push front v) ∙ by (is_variable_named x v.name) (has_variable v.name front) (named_turn v x)
  where
    others : List EnvVar → List EnvVar
    others l = filter (λ w. not (is_variable_named w x.name)) l

    apart : (b : Bool) → b ≡ false → not b ≡ true
    apart true e = cc
    apart false e = refl

    same : (b : Bool) → b ≡ true → not b ≡ false
    same true e = refl
    same false e = cc

    by : (b h : Bool) → is_variable_named v x.name ≡ b →
        x ∷ others (cond h (first_of_each_name front) (first_of_each_name front ++ v ∷ [])) ≡ cond (b || h) (x ∷ others (first_of_each_name front)) (x ∷ others (first_of_each_name front) ++ v ∷ [])
    by true true e = refl
    by true false e = ap (λ l. x ∷ l) (filter_past (λ w. not (is_variable_named w x.name)) (first_of_each_name front) v (same (is_variable_named v x.name) e))
    by false true e = refl
    by false false e = ap (λ l. x ∷ l) (filter_push (λ w. not (is_variable_named w x.name)) (first_of_each_name front) v (apart (is_variable_named v x.name) e))

-- a name that came has a last value
last_some : (name : List ℕ) (vs : List EnvVar) → has_variable name vs ≡ true → is_some (last_value name vs) ≡ true
last_some name [] h = cc
last_some name (x ∷ vs) h = by (has_variable name vs) (is_variable_named x name) refl h (last_some name vs)
  where
    by : (b n : Bool) → has_variable name vs ≡ b → (n || has_variable name vs) ≡ true → (has_variable name vs ≡ true → is_some (last_value name vs) ≡ true) →
        is_some (cond b (last_value name vs) (cond n (Some x.value) None)) ≡ true
    by true n e h more = more e
    by false true e h more = refl
    by false false e h more = absurd (never (sym e ∙ h))
      where
        never : false ≡ true → ⊥
        never i = cc

came : (vs : List EnvVar) (i : ℕ) (d : EnvVar) → i < length vs → has_variable (get_or vs i d).name vs ≡ true
came [] i d inside = absurd (omega (arith, inside))
came (x ∷ vs) zero d inside = by (is_variable_named x x.name) (same_bytes x.name)
  where
    by : (b : Bool) → b ≡ true → (b || has_variable x.name vs) ≡ true
    by true e = refl
    by false e = cc
came (x ∷ vs) (suc i) d inside = by (is_variable_named x (get_or vs i d).name) (came vs i d (omega (arith, inside)))
  where
    by : (b : Bool) → has_variable (get_or vs i d).name vs ≡ true → (b || has_variable (get_or vs i d).name vs) ≡ true
    by true e = refl
    by false e = e

pub has_last : (vs : List EnvVar) (i : ℕ) (d : EnvVar) → i < length vs → is_some (last_value (get_or vs i d).name vs) ≡ true
has_last vs i d inside = last_some (get_or vs i d).name vs (came vs i d inside)

module _ (vs front : List EnvVar) (v : EnvVar) where
  free : EnvVar → Bool
  free w = not (is_reserved_variable w.name)

  abbrev words : List EnvVar → List (List ℕ)
  words l = map variable_of (filter (λ w. not (is_reserved_variable w.name)) (map (with_last vs) l))

  reserved : (b : Bool) → b ≡ true → not b ≡ false
  reserved true e = refl
  reserved false e = cc

  unreserved : (b : Bool) → b ≡ false → not b ≡ true
  unreserved true e = cc
  unreserved false e = refl

  words_past : is_reserved_variable v.name ≡ true → words (first_of_each_name front ++ v ∷ []) ≡ words (first_of_each_name front)
  words_past e =
      ap (λ l. map variable_of (filter (λ w. not (is_reserved_variable w.name)) l)) (map_push (with_last vs) (first_of_each_name front) v)
      ∙ ap (map variable_of) (filter_past (λ w. not (is_reserved_variable w.name)) (map (with_last vs) (first_of_each_name front)) (with_last vs v) (reserved (is_reserved_variable v.name) e))

  words_more : is_reserved_variable v.name ≡ false → words (first_of_each_name front ++ v ∷ []) ≡ words (first_of_each_name front) ++ variable_of (with_last vs v) ∷ []
  words_more e =
      ap (λ l. map variable_of (filter (λ w. not (is_reserved_variable w.name)) l)) (map_push (with_last vs) (first_of_each_name front) v)
      ∙ (ap (map variable_of) (filter_push (λ w. not (is_reserved_variable w.name)) (map (with_last vs) (first_of_each_name front)) (with_last vs v) (unreserved (is_reserved_variable v.name) e))
      ∙ map_push variable_of (filter (λ w. not (is_reserved_variable w.name)) (map (with_last vs) (first_of_each_name front))) (with_last vs v))

  none_said : (o : Option (List ℕ)) → is_reserved_variable v.name ≡ true → variable_if_unreserved v.name o ≡ []
  none_said None e = refl
  none_said (Some value) e = ap (λ b. cond b [] (variable v.name value ∷ [])) e

  said : (value : List ℕ) → is_reserved_variable v.name ≡ false → variable_if_unreserved v.name (Some value) ≡ variable v.name value ∷ []
  said value e = ap (λ b. cond b [] (variable v.name value ∷ [])) e

  nothing_more : (o : Option (List ℕ)) → variable_if_unreserved v.name o ≡ [] → words (first_of_each_name front) ≡ words (first_of_each_name front) ++ variable_if_unreserved v.name o
  nothing_more o e = sym (ap (λ l. words (first_of_each_name front) ++ l) e ∙ append-nil (words (first_of_each_name front)))

  -- what is given after a variable more, by what is still left of its name
  pub given-push : (o : Option (List ℕ)) → (is_reserved_variable v.name ≡ false → o ≡ cond (has_variable v.name front) None (last_value v.name vs)) →
      is_some (last_value v.name vs) ≡ true → map variable_of (given_of vs (front ++ v ∷ [])) ≡ map variable_of (given_of vs front) ++ variable_if_unreserved v.name o
  given-push o left some = ap words (firsts-push front v) ∙ by (has_variable v.name front) (is_reserved_variable v.name) refl left
    where
      by : (h r : Bool) → is_reserved_variable v.name ≡ r → (r ≡ false → o ≡ cond h None (last_value v.name vs)) →
          words (cond h (first_of_each_name front) (first_of_each_name front ++ v ∷ [])) ≡ words (first_of_each_name front) ++ variable_if_unreserved v.name o
      by true true e left = nothing_more o (none_said o e)
      by false true e left = words_past e ∙ nothing_more o (none_said o e)
      by true false e left = nothing_more o (ap (variable_if_unreserved v.name) (left refl))
      by false false e left = words_more e ∙ ap (λ l. words (first_of_each_name front) ++ l) (given_last (last_value v.name vs) refl some)
        where
          given_last : (l : Option (List ℕ)) → last_value v.name vs ≡ l → is_some l ≡ true → variable_of (with_last vs v) ∷ [] ≡ variable_if_unreserved v.name o
          given_last None is s = cc
          given_last (Some value) is s =
              ap (λ x. variable v.name (unwrap_or x v.value) ∷ []) is ∙ sym (ap (variable_if_unreserved v.name) (left refl ∙ is) ∙ said value e)

-- what is left of each name after a variable more
pub left-push : (vs front : List EnvVar) (v : EnvVar) (name : List ℕ) →
    cond (bytes_eq v.name name) None (cond (has_variable name front) None (last_value name vs)) ≡ cond (has_variable name (front ++ v ∷ [])) None (last_value name vs)
left-push vs front v name = sym (ap (λ b. cond b None (last_value name vs)) (any_added (λ w. is_variable_named w name) front v) ∙ by (has_variable name front) (is_variable_named v name))
  where
    by : (h n : Bool) → cond (h || n) None (last_value name vs) ≡ cond n None (cond h None (last_value name vs))
    by true true = refl
    by true false = refl
    by false true = refl
    by false false = refl
