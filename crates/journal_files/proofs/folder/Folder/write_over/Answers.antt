use Rattle.journal_files.proofs.folder.Folder.write_over.Goals as goal

pub returns : goal.returns
returns g c = record { written = (c.in_ok-file.file, c.in_ok-write_synced.ensures.written) }
