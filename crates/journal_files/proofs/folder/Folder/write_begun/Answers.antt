use Rattle.journal_files.proofs.folder.Folder.write_begun.Goals as goal

pub returns-in-Ok : goal.returns-in-Ok
returns-in-Ok g c = record { written = (c.in_ok-file.file, c.in-Ok.ensures.written) }
