-- Laws of the definitions of row_files, and lemmas that its proofs share.
mod Replacing
mod Kept
