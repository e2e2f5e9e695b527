-- Packets as mixed-radix numbers. The headers of a network are the list of its field sizes; a packet is
-- a number below the product of them, and the first field is the most significant one.
use Rattle.std.specs.Prelude.{◌≡◌, ◌≢◌, ℕ, ◌+◌, ◌*◌, ◌/◌, ◌%◌, ◌<◌, ◌≤◌, List, [], ◌∷◌, length, drop, slice_index}

-- the product of the numbers of a list, and 1 of none
abbrev pub product : List ℕ → ℕ
product [] = 1
product (size ∷ sizes) = size * product sizes

-- what one step of field k counts for: the product of the sizes of the later fields
abbrev pub weight : List ℕ → ℕ → ℕ
weight sizes k = product (drop (k + 1) sizes)

-- the value of field k in packet p
unfoldable pub field_of : List ℕ → ℕ → ℕ → ℕ
field_of sizes p k = (p / weight sizes k) % slice_index sizes k

-- a number of values that a field may have
abbrev pub IsSize : ℕ → Type 0
IsSize n = (1 ≤ n) × (n ≤ 256)

-- each of the first n sizes is one that a field may have
abbrev pub FirstSizesFit : List ℕ → ℕ → Type 0
FirstSizesFit sizes n = (k : ℕ) → k < n → IsSize (slice_index sizes k)

-- there are one to eight fields
abbrev pub HasFieldCount : List ℕ → Type 0
HasFieldCount sizes = (1 ≤ length sizes) × (length sizes ≤ 8)

-- the sizes are headers: one to eight fields of 1 to 256 values each, and at most 65,536 packets
pub record IsHeaders (sizes : List ℕ) : Type 0 where
  pub counted : HasFieldCount sizes
  pub fit : FirstSizesFit sizes (length sizes)
  pub few_packets : product sizes ≤ 65536

-- one to eight sizes, of which that at k is the first that no field may have
pub record IsFirstUnfit (sizes : List ℕ) (k : ℕ) : Type 0 where
  pub counted : HasFieldCount sizes
  pub in_range : k < length sizes
  pub unfit : ¬ IsSize (slice_index sizes k)
  pub before : FirstSizesFit sizes k

-- one to eight sizes that fields may have, and more than 65,536 packets
pub record HasTooManyPackets (sizes : List ℕ) : Type 0 where
  pub counted : HasFieldCount sizes
  pub fit : FirstSizesFit sizes (length sizes)
  pub many_packets : 65536 < product sizes

-- packet q is packet p with field k replaced by x
pub record IsWith (sizes : List ℕ) (p k x q : ℕ) : Type 0 where
  pub below : q < product sizes
  pub changed : field_of sizes q k ≡ x
  pub others : (j : ℕ) → j < length sizes → j ≢ k → field_of sizes q j ≡ field_of sizes p j
