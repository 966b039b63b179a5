-- Names of labels and of reward models.
use Rattle.std.specs.{Prelude.{ℕ, ◌≤◌, Bool, true, not, ◌&&◌, ◌||◌, ◌==◌, IsTrue, nat_le, List, [], ◌∷◌, length}, List.{All, list_any}, Str.{bytes_eq}}

-- 1 to 255 bytes, no `"` and no LF among them
abbrev pub is_name : List ℕ → Bool
is_name name = nat_le 1 (length name) && nat_le (length name) 255 && not (list_any (λ b. b == 34 || b == 10) name)

abbrev pub IsName : List ℕ → Type 0
IsName name = IsTrue (is_name name)

-- 1 to 255 bytes, no blank, tab, CR, `"` and LF among them
abbrev pub is_reward_name : List ℕ → Bool
is_reward_name name = nat_le 1 (length name) && nat_le (length name) 255 && not (list_any (λ b. b == 32 || b == 9 || b == 13 || b == 34 || b == 10) name)

abbrev pub IsRewardName : List ℕ → Type 0
IsRewardName name = IsTrue (is_reward_name name)

-- no name twice
abbrev pub are_different : List (List ℕ) → Bool
are_different [] = true
are_different (name ∷ names) = not (list_any (bytes_eq name) names) && are_different names

-- it begins with `@`, or with two slashes
abbrev pub begins_reserved : List ℕ → Bool
begins_reserved [] = true
begins_reserved (b ∷ []) = b == 64
begins_reserved (b ∷ c ∷ bytes) = b == 64 || (b == 47 && c == 47)

abbrev pub first_is_reserved : List (List ℕ) → Bool
first_is_reserved [] = true
first_is_reserved (name ∷ names) = begins_reserved name

-- 1 to 16 different names of reward models, the first of which can't be taken for an entry of a header or a comment
pub record AreRewardNames (names : List (List ℕ)) : Type 0 where
  pub some : 1 ≤ length names
  pub few : length names ≤ 16
  pub each : All IsRewardName names
  pub different : IsTrue (are_different names)
  pub first : IsTrue (not (first_is_reserved names))
