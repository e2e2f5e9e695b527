-- What holds of the numbering for all headers, and one example.
use Rattle.std.specs.Prelude.{◌≡◌, ℕ, ◌<◌, ◌↔◌, List, [], ◌∷◌, Some, length, slice_index, slice_set}
use Rattle.header_set.specs.Headers.{product, field_of, IsHeaders, IsWith}
use Rattle.header_set.specs.Pattern.{any_pattern, Matches}

-- each field of a number is below the size of the field
abbrev pub FieldsAreBelowSizes : Type 0
FieldsAreBelowSizes = (sizes : List ℕ) (p k : ℕ) → IsHeaders sizes → k < length sizes →
    field_of sizes p k < slice_index sizes k

-- two packets with equal fields are one packet
abbrev pub FieldsDeterminePacket : Type 0
FieldsDeterminePacket = (sizes : List ℕ) (p q : ℕ) → IsHeaders sizes → p < product sizes → q < product sizes →
    ((k : ℕ) → k < length sizes → field_of sizes p k ≡ field_of sizes q k) → p ≡ q

-- each choice of one value per field, below its size, is the fields of a packet
abbrev pub FieldsAreFree : Type 0
FieldsAreFree = (sizes values : List ℕ) → IsHeaders sizes → length values ≡ length sizes →
    ((k : ℕ) → k < length sizes → slice_index values k < slice_index sizes k) →
    (p : ℕ) × (p < product sizes) × ((k : ℕ) → k < length sizes → field_of sizes p k ≡ slice_index values k)

-- there is only one packet that is p with field k replaced by x
abbrev pub ReplacedIsUnique : Type 0
ReplacedIsUnique = (sizes : List ℕ) (p k x q r : ℕ) → IsHeaders sizes →
    IsWith sizes p k x q → IsWith sizes p k x r → q ≡ r

-- with two fields of two values, packet 1 has the fields 0 and 1
abbrev pub SmallFields : Type 0
SmallFields = (field_of (2 ∷ 2 ∷ []) 1 0 ≡ 0) × (field_of (2 ∷ 2 ∷ []) 1 1 ≡ 1)

-- and of the four packets that one alone matches the pattern of 0 and 1
abbrev pub SmallMatch : Type 0
SmallMatch = (p : ℕ) → p < 4 →
    (Matches (2 ∷ 2 ∷ []) (slice_set (slice_set any_pattern 0 (Some 0)) 1 (Some 1)) p ↔ (p ≡ 1))
