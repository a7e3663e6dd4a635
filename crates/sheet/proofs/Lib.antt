mod Numerals
mod Digits
mod Gathers
mod Said
mod Laying
mod Imports
pub mod Lists
mod Exports
pub mod Forms
pub mod Trips
pub mod Misreads
pub mod Lengths
pub mod Refusals
pub mod Examples
pub mod Unique
