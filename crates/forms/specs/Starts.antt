-- The first byte of a form.
use Rattle.rules.specs.Words.{ℕ, Bool, cond, eqb}
use Rattle.text.specs.declared.Sort.TheVariants.{Named}
use Rattle.text.specs.Bytes.{byte_at, in_sort}
use Rattle.text.specs.Forms.{a, signs_of}

-- Form i can start with the byte b: the byte is of a name where the form starts with one, else the form's first sign.
unfoldable pub starts_with : ℕ → ℕ → Bool
starts_with i b = cond (eqb (byte_at (signs_of i) 0) a) (in_sort Named b) (eqb (byte_at (signs_of i) 0) b)
