-- What a `Keeping` shows to its callers.
use Rattle.std.specs.Prelude.{◌≡◌, ◌≢◌, Option, Some, None}
use Rattle.std.specs.declared.io.Error.{Error}
use Rattle.std.specs.declared.io.ErrorKind.TheVariants.{Interrupted}
use Rattle.std.specs.IoError.{error_kind}
use Rattle.screen_text.specs.declared.keeping.Keeping.{Keeping}

-- what octets are passed on to
abbrev pub out_of : {W : Type 0} → Keeping W → W
out_of k = k.out

-- the error that is kept
abbrev pub error_of : {W : Type 0} → Keeping W → Option Error
error_of k = k.error

-- what is kept once this error came: what was kept before, or else the error itself, if it is no interruption
abbrev pub IsKept : Error → Option Error → Option Error → Type 0
IsKept error (Some first) new = new ≡ Some first
IsKept error None new = (error_kind error ≢ Interrupted → new ≡ Some error) × (error_kind error ≡ Interrupted → new ≡ None)
