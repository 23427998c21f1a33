-- Lines that a text of one version can write, and lines of any lives.
use Rattle.std.proofs.Common.{arith}
use Rattle.totem_certificate.proofs.Common.{◌≡◌, List, true, false, All, Version, Two, writes_lives, Numbering, HasFirstLife, IsFirstVersion, IsLineIn, IsCertificateIn, IsCertificateOf}

-- ---- lives that are written, or are first

line_with : (version : Version) (line : Numbering) → (writes_lives version ≡ false → HasFirstLife line) → IsLineIn Two line → IsLineIn version line
line_with version line first is = record { process = record { id_fits = is.process.id_fits; life_fits = is.process.life_fits; first = first }; numbers = is.numbers }

-- a text that writes lives can write them all
pub with_lives : (version : Version) (lines : List Numbering) → writes_lives version ≡ true → IsCertificateIn Two lines → IsCertificateIn version lines
with_lives version lines written is = record { few = is.few; rising = is.rising; each = λ j d within. line_with version _ (λ h. absurd cc) (is.each j d within) }

-- and another can where all are first
pub all_first : (version : Version) (lines : List Numbering) → All HasFirstLife lines → IsCertificateIn Two lines → IsCertificateIn version lines
all_first version lines first is = record { few = is.few; rising = is.rising; each = λ j d within. line_with version _ (λ h. first j d within) (is.each j d within) }

-- the first version that can write lines is one of a certificate
pub first_certificate : (version : Version) (lines : List Numbering) → IsFirstVersion version lines → IsCertificateIn Two lines → IsCertificateOf (record { version = version; lines = lines })
first_certificate version lines h k = grind (arith, all_first)
