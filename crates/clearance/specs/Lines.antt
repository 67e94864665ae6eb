-- What a line of a script asks for. A line is the list of its bytes. Assumes nothing.
use Rattle.std.specs.Prelude.{ℕ, ◌+◌, ◌-◌, ◌*◌, Bool, true, cond, ◌&&◌, List, [], ◌∷◌, length, ℤ, pos, neg_ℤ, Some, None, Option, ◌==◌, nat_le}
use Rattle.clearance.specs.declared.call.Call.{Call}
use Rattle.clearance.specs.declared.call.Call.TheVariants.{Distance}

abbrev pub onto_first : ℕ → List (List ℕ) → List (List ℕ)
onto_first b [] = (b ∷ []) ∷ []
onto_first b (field ∷ more) = (b ∷ field) ∷ more

-- the fields of a line: its pieces between single spaces (32), one more than it has spaces
unfoldable pub fields : List ℕ → List (List ℕ)
fields [] = [] ∷ []
fields (b ∷ rest) = cond (b == 32) ([] ∷ fields rest) (onto_first b (fields rest))

abbrev pub is_digit : ℕ → Bool
is_digit b = nat_le 48 b && nat_le b 57

abbrev pub all_digits : List ℕ → Bool
all_digits [] = true
all_digits (b ∷ rest) = is_digit b && all_digits rest

-- the number that digits write, after the number n
abbrev pub decimal_after : ℕ → List ℕ → ℕ
decimal_after n [] = n
decimal_after n (b ∷ rest) = decimal_after (10 * n + (b - 48)) rest

-- a field that is a number has one to five digits and nothing else
abbrev pub is_number : List ℕ → Bool
is_number field = nat_le 1 (length field) && (nat_le (length field) 5 && all_digits field)

unfoldable pub number : List ℕ → Option ℕ
number field = cond (is_number field) (Some (decimal_after 0 field)) None

abbrev pub signed_by : (ℕ → ℤ) → Option ℕ → Option ℤ
signed_by sign None = None
signed_by sign (Some n) = Some (sign n)

-- a coordinate is a number, or a minus (45) and a number
abbrev pub coordinate : List ℕ → Option ℤ
coordinate [] = None
coordinate (b ∷ rest) =
    cond (b == 45) (signed_by (λ n. neg_ℤ (pos n)) (number rest)) (signed_by pos (number (b ∷ rest)))

abbrev pub distance_at : Option ℤ → Option ℤ → Option ℤ → Option Call
distance_at None y z = None
distance_at (Some x) None z = None
distance_at (Some x) (Some y) None = None
distance_at (Some x) (Some y) (Some z) = Some (Distance x y z)

-- the distance takes three coordinates
abbrev pub distance_call : List (List ℕ) → Option Call
distance_call [] = None
distance_call (x ∷ []) = None
distance_call (x ∷ (y ∷ [])) = None
distance_call (x ∷ (y ∷ (z ∷ []))) = distance_at (coordinate x) (coordinate y) (coordinate z)
distance_call (x ∷ (y ∷ (z ∷ (w ∷ more)))) = None

-- the first field of a line is the letter of its call: `s` (115) asks for the distance at a point
abbrev pub call_named : List ℕ → List (List ℕ) → Option Call
call_named [] arguments = None
call_named (b ∷ []) arguments = cond (b == 115) (distance_call arguments) None
call_named (b ∷ (c ∷ more)) arguments = None

abbrev pub call_from : List (List ℕ) → Option Call
call_from [] = None
call_from (name ∷ arguments) = call_named name arguments

-- the call of a line, if it is one
abbrev pub call_of : List ℕ → Option Call
call_of line = call_from (fields line)
