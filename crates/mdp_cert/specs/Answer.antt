-- How an answer of the program stands to the definition.
use Rattle.std.specs.Prelude.{ℕ, suc, Bool, false, List, [], ◌∷◌, option_map, if◌then◌else◌}
use Rattle.mdp_cert.specs.{declared.head.Head.{Head}, declared.version.Version.{Version}, declared.version.Version.TheVariants.{One, Two}}
use Rattle.mdp_cert.specs.{declared.claim_words.ClaimWords.{ClaimWords}, Cert.{PlainClaim, upper, reach, until, reward, mean, witness, plain_claim}, Runs.{Columns}}
use Rattle.mdp_cert.specs.Reading.{CertHead}
use Rattle.mdp_cert.specs.declared.claim_words.ClaimWords.TheVariants as words

-- the claim that these words say
abbrev pub said_claim : ClaimWords → PlainClaim
said_claim (words.Upper label) = upper label.now
said_claim (words.Reach dir label) = reach dir label.now
said_claim (words.Until dir stay label) = until dir stay.now label.now
said_claim (words.Reward dir name label) = reward dir name.now label.now
said_claim (words.Mean dir name) = mean dir name.now
said_claim (words.Witness dir stay label threshold) = witness dir (option_map (λ name. name.now) stay) label.now threshold

abbrev pub plain_head : Head → CertHead
plain_head h = record { claim = plain_claim h.claim; states = h.states; init = h.init }

-- ---- the first run of a list

-- whether the first two entries say the same
abbrev pub same_next : {A : Type 0} → Columns A → List A → Bool
same_next k (x ∷ y ∷ xs) = k.same x y
same_next k xs = false

-- how many entries behind the first one belong to its longest run
unfoldable pub more_same : {A : Type 0} → Columns A → List A → ℕ
more_same k [] = 0
more_same k (x ∷ xs) = if same_next k (x ∷ xs) then suc (more_same k xs) else 0

-- and to its line in this version
abbrev pub more_in : {A : Type 0} → Version → Columns A → List A → ℕ
more_in One k xs = 0
more_in Two k xs = more_same k xs
