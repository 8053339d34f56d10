-- Lines of uppercase hexadecimal (rules, "The hex exchange"): digits, bytes, numbers, lines.
use Rattle.std.specs.Prelude.{cond, ◌&&◌, List, [], ◌∷◌, ◌++◌, ℕ, zero, suc, ◌+◌, ◌-◌, ◌*◌, ◌/◌, ◌%◌, ◌^◌, leb, ltb, eqb, get_or, ℤ, pos, negsuc}
use Rattle.sets.specs.declared.Refusal.TheVariants.{NoFrame}
use Rattle.sets.specs.Outcomes.{Result, Ok, Err, and_then}

-- ---- reading
-- 0 to 9 and A to F; any other character is foreign
unfoldable pub digit : ℕ → Result ℕ
digit c = cond (leb 48 c && leb c 57) (Ok (c - 48)) (cond (leb 65 c && leb c 70) (Ok (c - 55)) (Err NoFrame))

-- two digits of a byte
unfoldable pub pair : ℕ → ℕ → Result ℕ
pair c d = and_then (digit c) (λ high. and_then (digit d) (λ low. Ok (high * 16 + low)))

-- two digits a byte; an odd digit is left over from no byte
unfoldable pub bytes_of : List ℕ → Result (List ℕ)
bytes_of [] = Ok []
bytes_of (c ∷ []) = Err NoFrame
bytes_of (c ∷ d ∷ cs) = and_then (pair c d) (λ b. and_then (bytes_of cs) (λ bs. Ok (b ∷ bs)))

-- a byte of a frame; past its end, 0
abbrev pub byte : List ℕ → ℕ → ℕ
byte bs i = get_or bs i 0

-- 4 bytes from place i, the first the highest
unfoldable pub word : List ℕ → ℕ → ℕ
word bs i = ((byte bs i * 256 + byte bs (i + 1)) * 256 + byte bs (i + 2)) * 256 + byte bs (i + 3)

-- in two's complement
abbrev pub signed : ℕ → ℤ
signed n = cond (ltb n (2 ^ 31)) (pos n) (negsuc (2 ^ 32 - suc n))

-- the lines: what stands before each LF. What is left behind the last LF is a line without LF
pub record Lines : Type 0 where
  pub ended : List (List ℕ)
  pub left : List ℕ

-- a character in front of the first line
abbrev pub with_first : ℕ → List (List ℕ) → List ℕ → Lines
with_first c [] left = record { ended = []; left = c ∷ left }
with_first c (line ∷ more) left = record { ended = (c ∷ line) ∷ more; left = left }

abbrev pub new_line : Lines → Lines
new_line x = record { ended = [] ∷ x.ended; left = x.left }

unfoldable pub lines : List ℕ → Lines
lines [] = record { ended = []; left = [] }
lines (c ∷ cs) = let rest = lines cs in cond (eqb c 10) (new_line rest) (with_first c rest.ended rest.left)

-- the bytes of the line at the front, up to its LF: what a line has been read as before it is known where it ends
unfoldable pub first_bytes : List ℕ → Result (List ℕ)
first_bytes [] = Err NoFrame
first_bytes (c ∷ []) = cond (eqb c 10) (Ok []) (Err NoFrame)
first_bytes (c ∷ d ∷ cs) = cond (eqb c 10) (Ok []) (and_then (pair c d) (λ b. and_then (first_bytes cs) (λ bs. Ok (b ∷ bs))))

-- ---- writing
-- n below 16 as a digit, a byte as two, bytes as a line
abbrev pub digit_of : ℕ → ℕ
digit_of n = cond (ltb n 10) (48 + n) (55 + n)

unfoldable pub digits_of : List ℕ → List ℕ
digits_of [] = []
digits_of (b ∷ bs) = digit_of (b / 16) ∷ digit_of (b % 16) ∷ digits_of bs

unfoldable pub line_of : List ℕ → List ℕ
line_of bs = digits_of bs ++ (10 ∷ [])

-- a number as so many bytes, the first the highest
unfoldable pub big_endian : ℕ → ℕ → List ℕ
big_endian zero n = []
big_endian (suc k) n = big_endian k (n / 256) ++ (n % 256 ∷ [])

-- a signed number's 4 bytes
abbrev pub pattern : ℤ → ℕ
pattern (pos n) = n
pattern (negsuc n) = 2 ^ 32 - suc n
