-- Looking up by the bytes of a key is looking up in the list of names.
use Rattle.std.proofs.Common.{◌≡◌, ℕ, ◌+◌, ◌<◌, Bool, true, false, cond, not, ◌||◌, ltb, lt-ltb, le-ltb, get_or, arith, List, [], ◌∷◌, ◌++◌, length, map, Some, None, refl, sym, ap, ◌∙◌}
use Rattle.std.proofs.{lemmas.List.{length-map, map_push}, lemmas.List.Sums.{position_or_len_is}}
use borrow.Author.Tests.{ltb-true, ltb-false}
use Rattle.std.specs.{List.{list_any, position_or_len, position}, Str.{bytes_eq}, Global.{Vec}}
use Rattle.mdp_rows.specs.Draft.{with_name}
use Rattle.mdp_rows.proofs.SoundCalls.Names.{some_passes, none_passes, known_name, new_name}

module _ {X Y : Type 0} (p : Y → Bool) (f : X → Y) where
  pub position_or_len-map : (xs : List X) → position_or_len p (map f xs) ≡ position_or_len (λ x. p (f x)) xs
  position_or_len-map [] = refl
  position_or_len-map (x ∷ xs) = ap (λ n. cond (not (p (f x))) (1 + n) 0) (position_or_len-map xs)

  pub position-map : (xs : List X) → position p (map f xs) ≡ position (λ x. p (f x)) xs
  position-map xs = rw (position_or_len-map xs, length-map xs f) refl

  pub list_any-map : (xs : List X) → list_any p (map f xs) ≡ list_any (λ x. p (f x)) xs
  list_any-map [] = refl
  list_any-map (x ∷ xs) = ap (λ b. p (f x) || b) (list_any-map xs)

some_cases : (b : Bool) (n i : ℕ) → cond b (Some n) None ≡ Some i → (b ≡ true) × (n ≡ i)
some_cases true n i e = (refl, cc)
some_cases false n i e = absurd cc

none_cases : (b : Bool) (n : ℕ) → cond b (Some n) None ≡ None → b ≡ false
none_cases true n e = absurd cc
none_cases false n e = refl

module _ {X : Type 0} (p : X → Bool) where
  -- the first element that passes
  pub first_is : (xs : List X) (i : ℕ) (d : X) → i < length xs → ((k : ℕ) → k < i → p (get_or xs k d) ≡ false) → p (get_or xs i d) ≡ true → Some i ≡ position p xs
  first_is xs i d l before here =
      ap (λ (b : Bool). cond b (Some i) None) (sym (lt-ltb i (length xs) l))
      ∙ ap (λ (n : ℕ). cond (ltb n (length xs)) (Some n) None) (sym (position_or_len_is p xs i d (omega arith) before (λ _. here)))

  none_by : (xs : List X) (d : X) → ((k : ℕ) → k < length xs → p (get_or xs k d) ≡ false) → None ≡ position p xs
  none_by xs d before =
      ap (λ (b : Bool). cond b (Some (length xs)) None) (sym (le-ltb (length xs) (length xs) (omega arith)))
      ∙ ap (λ (n : ℕ). cond (ltb n (length xs)) (Some n) None) (sym (position_or_len_is p xs (length xs) d (omega arith) before (λ l. absurd (omega arith))))

  pub none_is : (xs : List X) → ((k : ℕ) (d : X) → k < length xs → p (get_or xs k d) ≡ false) → None ≡ position p xs
  none_is [] before = refl
  none_is (x ∷ xs) before = none_by (x ∷ xs) x (λ k. before k x)

  -- where a place is found, it is the first place, and some element passes
  pub found_place : (xs : List X) (i : ℕ) → position p xs ≡ Some i → (i ≡ position_or_len p xs) × (list_any p xs ≡ true)
  found_place xs i e =
      let s = some_cases (ltb (position_or_len p xs) (length xs)) (position_or_len p xs) i e in
      (sym s.1, some_passes p xs (ltb-true _ _ s.0))

  pub no_place : (xs : List X) → position p xs ≡ None → list_any p xs ≡ false
  no_place xs e = none_passes p xs (ltb-false _ _ (none_cases (ltb (position_or_len p xs) (length xs)) (position_or_len p xs) e))

keys_by : (b : Bool) (ks : List (Vec ℕ)) (k : Vec ℕ) → map (λ v. v.items) (cond b ks (ks ++ k ∷ [])) ≡ cond b (map (λ v. v.items) ks) (map (λ v. v.items) ks ++ k.items ∷ [])
keys_by true ks k = refl
keys_by false ks k = map_push (λ v. v.items) ks k

-- a key that is inserted goes last, where its bytes are new
pub with_name-keys : (ks : List (Vec ℕ)) (k : Vec ℕ) → map (λ v. v.items) (cond (list_any (λ v. bytes_eq k.items v.items) ks) ks (ks ++ k ∷ [])) ≡ with_name (map (λ v. v.items) ks) k.items
with_name-keys ks k = rw (list_any-map (bytes_eq k.items) (λ v. v.items) ks) (keys_by (list_any (λ v. bytes_eq k.items v.items) ks) ks k)

-- ---- what a look-up among the keys says of the names

module _ (ks : List (Vec ℕ)) (names : List (List ℕ)) (name : List ℕ) (is : map (λ v. v.items) ks ≡ names) where
  any_is : list_any (λ (v : Vec ℕ). bytes_eq name v.items) ks ≡ list_any (bytes_eq name) names
  any_is = sym (list_any-map (bytes_eq name) (λ v. v.items) ks) ∙ ap (list_any (bytes_eq name)) is

  pub place_is : position_or_len (λ (v : Vec ℕ). bytes_eq name v.items) ks ≡ position_or_len (bytes_eq name) names
  place_is = sym (position_or_len-map (bytes_eq name) (λ v. v.items) ks) ∙ ap (position_or_len (bytes_eq name)) is

  pub same_count : length ks ≡ length names
  same_count = sym (length-map ks (λ v. v.items)) ∙ ap length is

  pub seen_before : (i : ℕ) → position (λ (v : Vec ℕ). bytes_eq name v.items) ks ≡ Some i → (i ≡ position_or_len (bytes_eq name) names) × (with_name names name ≡ names)
  seen_before i e =
      let f = found_place (λ (v : Vec ℕ). bytes_eq name v.items) ks i e in
      (f.0 ∙ place_is, known_name names name (sym any_is ∙ f.1))

  pub never_seen : position (λ (v : Vec ℕ). bytes_eq name v.items) ks ≡ None → with_name names name ≡ names ++ name ∷ []
  never_seen e = new_name names name (sym any_is ∙ no_place (λ (v : Vec ℕ). bytes_eq name v.items) ks e)
