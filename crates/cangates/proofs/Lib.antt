mod Written
mod WordLists
mod Rows
