-- What is said of an error by its kind. A text is the list of its bytes. Ours, of no standard.
use Rattle.std.specs.Prelude.{ℕ, List, codes, Option, Some, None}
use Rattle.std.specs.declared.io.ErrorKind.{ErrorKind}
use Rattle.std.specs.declared.io.ErrorKind.TheVariants.{NotFound, PermissionDenied, IsADirectory, NotADirectory, ReadOnlyFilesystem, StorageFull, BrokenPipe}

-- the words for a kind; all other kinds have none, and are said as the system does
abbrev pub words_of : ErrorKind → Option (List ℕ)
words_of NotFound = Some (codes "no such file")
words_of PermissionDenied = Some (codes "no permission")
words_of IsADirectory = Some (codes "is a folder")
words_of NotADirectory = Some (codes "a part of its path is no folder")
words_of ReadOnlyFilesystem = Some (codes "can only be read")
words_of StorageFull = Some (codes "no space left")
words_of BrokenPipe = Some (codes "nobody reads it any more")
words_of _ = None
