mod Batches
mod Compares
mod Endings
mod Openings
mod Takes
