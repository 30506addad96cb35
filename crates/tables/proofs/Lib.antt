pub mod TableCopies
