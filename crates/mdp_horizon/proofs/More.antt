-- A list with one more.
use Rattle.std.proofs.Common.{◌≡◌, ◌∙◌, ℕ, suc, ◌+◌, ◌<◌, List, [], ◌∷◌, ◌++◌, length, map, take, drop, get_or, sym, ap, arith}
use Rattle.std.proofs.{lemmas.List.{map_push, take_more, get_or-map, length-map}, Math.Seq.{drop-cons}}
use Rattle.std.specs.List.{range_with_len}
use Rattle.mdp_math.proofs.Lists.{map_more}

pub more : {A : Type 0} (f : ℕ → A) (s : ℕ) (values : List A) (x : A) → values ≡ map f (range_with_len 0 s) → x ≡ f s → values ++ x ∷ [] ≡ map f (range_with_len 0 (s + 1))
more f s values x e q = ap (λ xs. xs ++ x ∷ []) e ∙ ap (λ y. map f (range_with_len 0 s) ++ y ∷ []) q ∙ sym (map_more f s)

-- as they are seen by g
pub seen_more : {A B : Type 0} (g : A → B) (f : ℕ → B) (s : ℕ) (xs : List A) (x : A) → map g xs ≡ map f (range_with_len 0 s)
    → g x ≡ f s → map g (xs ++ x ∷ []) ≡ map f (range_with_len 0 (s + 1))
seen_more g f s xs x e q = map_push g xs x ∙ more f s (map g xs) (g x) e q

pub taken_more : {A B : Type 0} (f : A → B) (ys : List A) (c : ℕ) (d : A) (xs : List B) (x : B) → c < length ys → xs ≡ map f (take c ys)
    → x ≡ f (get_or ys c d) → xs ++ x ∷ [] ≡ map f (take (c + 1) ys)
taken_more f ys c d xs x l e q =
    ap (λ zs. zs ++ x ∷ []) e ∙ ap (λ y. map f (take c ys) ++ y ∷ []) q ∙ sym (map_push f (take c ys) (get_or ys c d)) ∙ sym (ap (map f) (take_more ys c d l))

pub seen_taken : {A B C : Type 0} (g : A → B) (f : C → B) (ys : List C) (c : ℕ) (d : C) (xs : List A) (x : A) → c < length ys → map g xs ≡ map f (take c ys) → g x ≡ f (get_or ys c d)
    → map g (xs ++ x ∷ []) ≡ map f (take (c + 1) ys)
seen_taken g f ys c d xs x l e q = map_push g xs x ∙ taken_more f ys c d (map g xs) (g x) l e q

-- the rest from place c on begins with what stands there
pub rest_at : {A B : Type 0} (g : A → B) (xs : List A) (c : ℕ) (a : A) (d : B) → c < length xs → drop c (map g xs) ≡ g (get_or xs c a) ∷ drop (c + 1) (map g xs)
rest_at g xs c a d l =
    let on : suc c ≡ c + 1 = omega arith in
    drop-cons (map g xs) c d (omega (arith, length-map xs g))
    ∙ ap (λ y. y ∷ drop (suc c) (map g xs)) (get_or-map g xs c a d l)
    ∙ ap (λ k. g (get_or xs c a) ∷ drop k (map g xs)) on

-- the same with what is known to stand there
pub rest_with : {A B : Type 0} (g : A → B) (xs : List A) (c : ℕ) (a : A) (d : B) → c < length xs → a ≡ get_or xs c a → drop c (map g xs) ≡ g a ∷ drop (c + 1) (map g xs)
rest_with g xs c a d l e = rest_at g xs c a d l ∙ ap (λ y. g y ∷ drop (c + 1) (map g xs)) (sym e)
