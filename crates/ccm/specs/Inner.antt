-- Words for the contracts of the inner functions.
use Rattle.std.specs.Prelude.{◌≡◌, Bool, cond, length, replicate}
use Rattle.octets.specs.Octets.{Octets, begins}
use Rattle.aes.specs.Aes.{encrypted}
use Rattle.aes.specs.Words.{round_keys}
use Rattle.aes.specs.declared.Aes128.{Aes128}
use Rattle.ccm.specs.Ccm.{covered}

-- AES-128 under an expanded key
abbrev pub under : Aes128 → Octets → Octets
under cipher = encrypted (round_keys cipher)

-- it makes sixteen octets of each block
abbrev pub WholeBlocks : (Octets → Octets) → Type 0
WholeBlocks E = (b : Octets) → length (E b) ≡ 16

-- a part of a block, which zeros fill up
abbrev pub filled : Octets → Octets
filled xs = begins xs (replicate 16 0)

-- what is chained: what comes out where a message is opened, and what goes in where it is sealed
abbrev pub plain : Bool → (Octets → Octets) → Octets → Octets → Octets
plain opening E nonce xs = cond opening (covered E nonce xs) xs
