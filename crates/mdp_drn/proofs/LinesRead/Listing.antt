-- Lists of what the elements of another list show.
use Rattle.std.proofs.Common.{◌≡◌, ℕ, ◌+◌, ◌<◌, Bool, true, false, ◌||◌, List, [], ◌∷◌, drop, get_or, length, map, refl, ap, ◌∙◌, add-one, drop-cons}
use Rattle.std.proofs.lemmas.List.{drop-map}
use Rattle.std.specs.List.{list_any}

pub list_any_either : (p q : ℕ → Bool) (xs : List ℕ) → list_any (λ x. p x || q x) xs ≡ (list_any p xs || list_any q xs)
list_any_either p q [] = refl
list_any_either p q (x ∷ xs) = ap (λ (b : Bool). (p x || q x) || b) (list_any_either p q xs) ∙ by (p x) (q x) (list_any p xs) (list_any q xs)
  where
    by : (a b c d : Bool) → ((a || b) || (c || d)) ≡ ((a || c) || (b || d))
    by true b c d = refl
    by false true true d = refl
    by false true false d = refl
    by false false c d = refl

-- from one place on
pub map-at : {A B : Type 0} (f : A → B) (xs : List A) (i : ℕ) (d : A) → i < length xs → drop i (map f xs) ≡ f (get_or xs i d) ∷ drop (i + 1) (map f xs)
map-at f xs i d lt = rw (drop-map f i xs, drop-map f (i + 1) xs, add-one, drop-cons xs i d lt) refl
