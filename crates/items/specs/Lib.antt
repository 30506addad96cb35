pub mod Ascending
pub mod Items
pub mod Sets
pub mod Texts
