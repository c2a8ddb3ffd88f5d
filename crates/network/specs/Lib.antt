-- Networks by their PLMN, and the names of a network and of a visited country.
pub mod Plmn
pub mod Name
pub mod Laws
